-- `effective_cost` meets its contract: what the check does not find alone.
use Rattle.std.proofs.lemmas.Result.{err_from_is_err_and}
use Rattle.planner_questions.proofs.QuestionLaws.{route_fit, route_depot, route_stops}
use Rattle.worth_questions.proofs.WorthLaws.{cost_refused, cost_answered}
use Rattle.worth_questions.proofs.effective_cost.Goals as goal

pub returns-in_err-route_refusal : goal.returns-in_err-route_refusal
returns-in_err-route_refusal c = let p = err_from_is_err_and c.from_residual.result c.from_residual.ensures.1 in rw (p.1, p.2) (cost_refused _ _ _ c.in_err-route_refusal.ensures)

pub network-requires : goal.network-requires
network-requires c = route_fit _ _ c.in_ok-route_refusal.ensures

pub effective_cost-cost-requires : goal.effective_cost-cost-requires
effective_cost-cost-requires c = rw c.network.ensures.1 (route_depot _ _ c.in_ok-route_refusal.ensures, route_stops _ _ c.in_ok-route_refusal.ensures)

pub returns : goal.returns
returns c = cost_answered _ _ c.in_ok-route_refusal.ensures _ _ c.of.ensures (rw (c.network.ensures.0, c.network.ensures.1) at c.effective_cost-cost.ensures)
