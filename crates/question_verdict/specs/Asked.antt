-- What a stored question asks. Assumes nothing.
use Rattle.std.specs.Prelude.{ℕ, List, Float, Option, Some, None}
use Rattle.std.specs.Borrow.{Bor}
use Rattle.problem_questions.specs.models.Problem.{Problem}
use Rattle.problem_questions.specs.models.Vehicle.{vehicle_break_new}
use Rattle.problem_questions.specs.planner.Calls.{public_lateness_bound, public_gain_floor, public_time_window_new}
use Rattle.same_answers.specs.stored_answers.stored_values.declared.kinds.Kind.{Kind}
use Rattle.same_answers.specs.stored_answers.stored_values.declared.kinds.Kind.TheVariants as kind
use Rattle.same_answers.specs.stored_answers.declared.Stored.{Stored}
use Rattle.same_answers.specs.stored_answers.Answers.{number_stored, window_stored}
use Rattle.route_asked.specs.RouteAsked.{route_question}
use Rattle.route_asked.specs.declared.RouteQuestion.TheVariants as of_route
use Rattle.question_verdict.specs.declared.Question.{Question}
use Rattle.question_verdict.specs.declared.Question.TheVariants.{OfRoute, LatenessBound, GainFloor, TimeWindowNew}

-- what a kind asks of a route and three floats: x, y, z is `schedule`'s break, and x, y the window of `time_window_new`
abbrev pub question_of : Kind → Bor (List ℕ) → Float → Float → Float → Option Question
question_of kind.Minimise route x y z = None
question_of kind.Eliminate route x y z = None
question_of kind.RouteFeasible route x y z = Some (OfRoute route of_route.RouteFeasible)
question_of kind.RouteEval route x y z = Some (OfRoute route of_route.RouteEval)
question_of kind.EffectiveCost route x y z = Some (OfRoute route of_route.EffectiveCost)
question_of kind.Schedule route x y z = Some (OfRoute route (of_route.Schedule (vehicle_break_new x y z)))
question_of kind.RouteDistance route x y z = Some (OfRoute route of_route.RouteDistance)
question_of kind.LatenessBound route x y z = Some LatenessBound
question_of kind.GainFloor route x y z = Some GainFloor
question_of kind.TimeWindowNew route x y z = Some (TimeWindowNew x y)

-- any question
unfoldable pub question : Question → Problem → Stored
question (OfRoute route asked) p = route_question asked p route.now
question LatenessBound p = number_stored (public_lateness_bound p)
question GainFloor p = number_stored (public_gain_floor p)
question (TimeWindowNew ready due) p = window_stored (public_time_window_new ready due)
