-- What a route is worth (evaluation/mod.rs; "One stop, one route"). Assumes nothing.
use Rattle.std.specs.Prelude.{ℕ, List, Bool, true, false, cond, Float, Option, Some, None}
use Rattle.break_schedule.specs.floats.Binary64.{◌⊕◌, 0f, +∞}
use Rattle.break_schedule.specs.laws.Walks.{walk}
use Rattle.break_schedule.specs.models.declared.limits.RouteLimits.{RouteLimits}
use Rattle.break_schedule.specs.models.Customer.{Customers, customer_at}
use Rattle.break_schedule.specs.models.RouteLimits.{allow}
use Rattle.break_schedule.specs.models.Problem.{DistanceMatrix}
use Rattle.break_schedule.specs.distance.Matrix.{get, travel_time}
use Rattle.break_schedule.specs.labels.Labels.{START, serve_at}
use Rattle.break_schedule.specs.break_clock.RouteEval.{priced_distance}
use Rattle.break_schedule.specs.break_clock.Schedule.{ended, schedule}
use Rattle.evaluation.specs.declared.eval.Walk.{Walk}
use Rattle.break_schedule.specs.models.declared.vehicle.VehicleBreak.{VehicleBreak}
use Rattle.break_schedule.specs.break_clock.declared.route_eval.RouteEval.{RouteEval}
use Rattle.break_schedule.specs.labels.declared.Label.{Label}

-- `is_some`
abbrev pub is_feasible : Option RouteEval → Bool
is_feasible None = false
is_feasible (Some e) = true

-- `limits.allow(..).then_some(..)`
abbrev pub limited : RouteLimits → Option RouteEval → Option RouteEval
limited limits None = None
limited limits (Some e) = cond (allow limits e.distance e.duration) (Some e) None

-- `route_eval` at its start
abbrev pub set_out : ℕ → Walk
set_out depot = record { label = START; distance = 0f; prev = depot }

abbrev pub walked : Float → ℕ → Option Label → Option Walk
walked distance c None = None
walked distance c (Some l) = Some (record { label = l; distance = distance; prev = c })

-- a turn of the loop of `route_eval`. What it does at a stop is `serve` without a break, so it is said by it.
unfoldable pub drive : Customers → DistanceMatrix → Walk → ℕ → Option Walk
drive cs m w c =
    walked (w.distance ⊕ get m w.prev c) c
    (serve_at w.label (w.label.time ⊕ travel_time m w.prev c) None (customer_at cs c))

abbrev pub onward : Option Walk → (Walk → Option Walk) → Option Walk
onward None f = None
onward (Some w) f = f w

-- the loop of `route_eval`, over some stops: "Distance, lateness and cost are summed in stop order."
abbrev pub drive_all : Customers → DistanceMatrix → List ℕ → Walk → Option Walk
drive_all cs m stops w = walk Some onward (drive cs m) stops w

-- "The return leg is added; then distance ≤ limit and duration ≤ limit."
unfoldable pub home : DistanceMatrix → ℕ → RouteLimits → Walk → Option RouteEval
home m depot limits w =
    let distance = w.distance ⊕ get m w.prev depot in
    let duration = w.label.time ⊕ travel_time m w.prev depot in
    cond (allow limits distance duration) (ended w.label distance duration None) None

abbrev pub homeward : DistanceMatrix → ℕ → RouteLimits → Option Walk → Option RouteEval
homeward m depot limits None = None
homeward m depot limits (Some w) = home m depot limits w

abbrev pub eval_with : Customers → DistanceMatrix → ℕ → RouteLimits → List ℕ → Option VehicleBreak → Option RouteEval
eval_with cs m depot limits route None = homeward m depot limits (drive_all cs m route (set_out depot))
eval_with cs m depot limits route (Some rest) =
    limited limits (schedule cs m depot rest route)

-- `route_eval`
unfoldable pub route_eval : Customers → DistanceMatrix → ℕ → RouteLimits → List ℕ → Option RouteEval
route_eval cs m depot limits route = eval_with cs m depot limits route limits.rest

abbrev pub worth : Option RouteEval → Float
worth None = +∞
worth (Some e) = priced_distance e

-- `effective_cost`
unfoldable pub effective_cost : Customers → DistanceMatrix → ℕ → RouteLimits → List ℕ → Float
effective_cost cs m depot limits route = worth (route_eval cs m depot limits route)
