-- `route_feasible` meets its contract: what the check does not find alone.
use Rattle.std.proofs.lemmas.Result.{err_from_is_err_and}
use Rattle.planner_questions.proofs.QuestionLaws.{route_fit, route_depot, route_stops, feasible_refused, feasible_answered}
use Rattle.planner_questions.proofs.route_feasible.Goals as goal

pub returns-in_err-route_refusal : goal.returns-in_err-route_refusal
returns-in_err-route_refusal c = let p = err_from_is_err_and c.from_residual.result c.from_residual.ensures.1 in rw (p.1, p.2) (feasible_refused _ _ _ c.in_err-route_refusal.ensures)

pub network-requires : goal.network-requires
network-requires c = route_fit _ _ c.in_ok-route_refusal.ensures

pub route_feasible-passes-requires : goal.route_feasible-passes-requires
route_feasible-passes-requires c = rw c.network.ensures.1 (route_depot _ _ c.in_ok-route_refusal.ensures, route_stops _ _ c.in_ok-route_refusal.ensures)

pub returns : goal.returns
returns c = feasible_answered _ _ c.in_ok-route_refusal.ensures _ _ c.of.ensures (rw (c.network.ensures.0, c.network.ensures.1) at c.route_feasible-passes.ensures)
