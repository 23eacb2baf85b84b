-- The public calls: each is refused by the table or answers. Assumes nothing.
use Rattle.std.specs.Prelude.{ℕ, List, Bool, length, Float, Option, None, Some}
use Rattle.lateness_bound.specs.models.declared.vehicle.VehicleBreak.{VehicleBreak}
use Rattle.lateness_bound.specs.models.TimeWindow.{time_window_new}
use Rattle.lateness_bound.specs.models.RouteLimits.{limits_of}
use Rattle.lateness_bound.specs.models.Problem.{Problem, depot}
use Rattle.lateness_bound.specs.break_clock.Schedule.{schedule}
use Rattle.lateness_bound.specs.evaluation.Eval.{route_eval, effective_cost}
use Rattle.lateness_bound.specs.evaluation.Check.{route_feasible}
use Rattle.lateness_bound.specs.Bound.{lateness_bound}
use Rattle.minimization.specs.plan.Plan.{Plan, Slices, split, written}
use Rattle.minimization.specs.route_cost.Route.{route_distance, gain_floor}
use Rattle.minimization.specs.local_search.declared.rounds.Reduction.{Reduction}
use Rattle.lateness_bound.specs.models.declared.customer.TimeWindow.{TimeWindow}
use Rattle.lateness_bound.specs.break_clock.declared.route_eval.RouteEval.{RouteEval}
use Rattle.minimization.specs.local_search.Rounds.{Result}
use Rattle.minimization.specs.ejection_pool.Pool.{Allowance}
use Rattle.minimization.specs.Minimize.{minimize_routes}
use Rattle.elimination_moves.specs.Eliminate.{eliminate_routes}
use Rattle.entry.specs.declared.Work.{Work}
use Rattle.entry.specs.Table.{refusal}
use Rattle.entry.specs.Given.{problem_inputs, route_inputs, schedule_inputs, minimise_inputs, eliminate_inputs}

-- "A refusal returns its number only"
pub data Answer (A : Type 0) : Type 0 where
  refused : ℕ → Answer A
  answered : A → Answer A

abbrev pub unless_refused : {A : Type 0} → Option ℕ → A → Answer A
unless_refused None a = answered a
unless_refused (Some n) a = refused n

-- ---- questions about a route or the problem. "rows 1 to 4 over the whole problem, then 6 over the route"

-- `route_feasible`
unfoldable pub public_route_feasible : Problem → List ℕ → Answer Bool
public_route_feasible p r = unless_refused (refusal (route_inputs p r)) (route_feasible p.places p.roads (depot p) (limits_of p.vehicle) r)

-- `route_eval`
unfoldable pub public_route_eval : Problem → List ℕ → Answer (Option RouteEval)
public_route_eval p r = unless_refused (refusal (route_inputs p r)) (route_eval p.places p.roads (depot p) (limits_of p.vehicle) r)

-- `effective_cost`
unfoldable pub public_effective_cost : Problem → List ℕ → Answer Float
public_effective_cost p r = unless_refused (refusal (route_inputs p r)) (effective_cost p.places p.roads (depot p) (limits_of p.vehicle) r)

-- `schedule`, with the break that it is given, and no limits
unfoldable pub public_schedule : Problem → VehicleBreak → List ℕ → Answer (Option RouteEval)
public_schedule p b r = unless_refused (refusal (schedule_inputs p b r)) (schedule p.places p.roads (depot p) b r)

-- `route_distance`
unfoldable pub public_route_distance : Problem → List ℕ → Answer Float
public_route_distance p r = unless_refused (refusal (route_inputs p r)) (route_distance p.roads (depot p) r)

-- `lateness_bound`
unfoldable pub public_lateness_bound : Problem → Answer Float
public_lateness_bound p = unless_refused (refusal (problem_inputs p)) (lateness_bound p.places p.roads)

-- `gain_floor`
unfoldable pub public_gain_floor : Problem → Answer Float
public_gain_floor p = unless_refused (refusal (problem_inputs p)) (gain_floor p.roads)

-- "`TimeWindow::new` is ported for every f64 and has no numbers."
abbrev pub public_time_window_new : Float → Float → Option TimeWindow
public_time_window_new ready due = time_window_new ready due

-- ---- the two calls that change a plan

-- a call's answer ("A call returns r"; "Results carry steps and draws."), and both slices after it
pub record Reply : Type 0 where
  pub answer : Answer Reduction
  pub slices : Slices

-- the plan in two slices
abbrev pub plan_in : Slices → Plan
plan_in s = split s.lengths s.stops

-- "A refusal returns its number only and changes no buffer."; otherwise "the first r lengths are the answer, later ones become 0"
unfoldable pub reply : Slices → Option ℕ → Result → Reply
reply s (Some n) x = record { answer = refused n; slices = s }
reply s None x = record { answer = answered (record { routes = length x.plan; counts = x.counts }); slices = written (length s.lengths) x.plan }

-- minimise
unfoldable pub public_minimise : Problem → Slices → Allowance → Work → Reply
public_minimise p s given w = reply s (refusal (minimise_inputs p s given.tape given.limit w)) (minimize_routes given p (plan_in s))

-- eliminate, whose counts are 0
unfoldable pub public_eliminate : Problem → Slices → Work → Reply
public_eliminate p s w =
    reply s (refusal (eliminate_inputs p s w)) (record { plan = eliminate_routes p (plan_in s); counts = record { steps = 0; draws = 0 } })
