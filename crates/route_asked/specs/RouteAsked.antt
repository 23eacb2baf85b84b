-- What a stored question about a route asks. Assumes nothing.
use Rattle.std.specs.Prelude.{ℕ, List}
use Rattle.worth_questions.specs.models.Problem.{Problem}
use Rattle.worth_questions.specs.planner.Calls.{public_route_feasible, public_route_eval, public_effective_cost, public_schedule, public_route_distance}
use Rattle.stored_answers.specs.declared.Stored.{Stored}
use Rattle.stored_answers.specs.Answers.{checked_stored, number_stored, evaluated_stored}
use Rattle.route_asked.specs.declared.RouteQuestion.{RouteQuestion}
use Rattle.route_asked.specs.declared.RouteQuestion.TheVariants.{RouteFeasible, RouteEval, EffectiveCost, Schedule, RouteDistance}

-- a question about a route; `schedule` is given a break
unfoldable pub route_question : RouteQuestion → Problem → List ℕ → Stored
route_question RouteFeasible p route = checked_stored (public_route_feasible p route)
route_question RouteEval p route = evaluated_stored (public_route_eval p route)
route_question EffectiveCost p route = number_stored (public_effective_cost p route)
route_question (Schedule rest) p route = evaluated_stored (public_schedule p rest route)
route_question RouteDistance p route = number_stored (public_route_distance p route)
