-- `route_distance` meets its contract: what the check does not find alone.
use Rattle.std.proofs.lemmas.Result.{err_from_is_err_and}
use Rattle.planner_questions.proofs.QuestionLaws.{route_cells, route_few, route_depot, route_stops, distance_refused, distance_answered}
use Rattle.planner_questions.proofs.route_distance.Goals as goal

pub returns-in_err-route_refusal : goal.returns-in_err-route_refusal
returns-in_err-route_refusal c = let p = err_from_is_err_and c.from_residual.result c.from_residual.ensures.1 in rw (p.1, p.2) (distance_refused _ _ _ c.in_err-route_refusal.ensures)

pub route_distance-distance-requires : goal.route_distance-distance-requires
route_distance-distance-requires c = record { n_bound = (route_few _ _ c.in_ok-route_refusal.ensures, route_cells _ _ c.in_ok-route_refusal.ensures); depot_lt_n = (route_depot _ _ c.in_ok-route_refusal.ensures, route_stops _ _ c.in_ok-route_refusal.ensures) }

pub returns : goal.returns
returns c = distance_answered _ _ c.in_ok-route_refusal.ensures _ c.route_distance-distance.ensures
