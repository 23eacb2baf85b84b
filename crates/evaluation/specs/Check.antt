-- Whether a route passes (evaluation/mod.rs; "One stop, one route"). Assumes nothing.
use Rattle.std.specs.Prelude.{ℕ, List, Bool, false, cond, not, ◌&&◌, ◌||◌, Float, Option, Some, None}
use Rattle.break_schedule.specs.floats.Binary64.{◌⊕◌, 0f}
use Rattle.break_schedule.specs.laws.Searches.{any}
use Rattle.break_schedule.specs.laws.Walks.{walk}
use Rattle.break_schedule.specs.models.declared.customer.Customer.{Customer}
use Rattle.break_schedule.specs.models.declared.limits.RouteLimits.{RouteLimits}
use Rattle.break_schedule.specs.models.TimeWindow.{waiting_time, is_violated}
use Rattle.break_schedule.specs.models.Customer.{Customers, customer_at, windowed, penalised}
use Rattle.break_schedule.specs.models.RouteLimits.{is_unlimited, allow}
use Rattle.break_schedule.specs.models.Problem.{DistanceMatrix}
use Rattle.break_schedule.specs.distance.Matrix.{get, travel_time}
use Rattle.evaluation.specs.declared.check.Way.{Way}
use Rattle.break_schedule.specs.models.declared.customer.TimeWindow.{TimeWindow}
use Rattle.break_schedule.specs.models.declared.vehicle.VehicleBreak.{VehicleBreak}
use Rattle.break_schedule.specs.break_clock.Schedule.{schedule}
use Rattle.evaluation.specs.Eval.{is_feasible, limited}

-- ---- whether the check is needed

-- `has_time_windows`, of the places' flags
unfoldable pub has_time_windows : List ℕ → Bool
has_time_windows flags = any windowed flags

-- a window with a penalty
abbrev pub soft : ℕ → Bool
soft flag = windowed flag && penalised flag

-- `has_soft_windows`: "any place, the depot included, has window and penalty"
unfoldable pub has_soft_windows : List ℕ → Bool
has_soft_windows flags = any soft flags

-- "The route check is needed if any place has a window or any limit or break is set."
abbrev pub route_checks_needed : List ℕ → RouteLimits → Bool
route_checks_needed flags limits = has_time_windows flags || not (is_unlimited limits)

-- ---- one stop

abbrev pub unless_hard : Option Float → Float → Option Float
unless_hard None time = None
unless_hard (Some each) time = Some time

abbrev pub departure_in : Float → Customer → Option TimeWindow → Option Float
departure_in arrival c None = Some (arrival ⊕ c.service_duration)
departure_in arrival c (Some w) =
    let time = arrival ⊕ waiting_time w arrival ⊕ c.service_duration in
    cond (is_violated w arrival) (unless_hard c.lateness_penalty time) (Some time)

-- when the service ends after an arrival: missed if the window is "violated and without penalty"
unfoldable pub departure : Float → Customer → Option Float
departure arrival c = departure_in arrival c c.time_window

-- ---- the route

-- `route_feasible` at its start
abbrev pub set_out : ℕ → Way
set_out depot = record { time = 0f; distance = 0f; prev = depot }

abbrev pub reached : Float → ℕ → Option Float → Option Way
reached distance c None = None
reached distance c (Some time) = Some (record { time = time; distance = distance; prev = c })

-- a turn of the loop of `route_feasible`
unfoldable pub reach : Customers → DistanceMatrix → Way → ℕ → Option Way
reach cs m w c =
    reached (w.distance ⊕ get m w.prev c) c (departure (w.time ⊕ travel_time m w.prev c) (customer_at cs c))

abbrev pub onward : Option Way → (Way → Option Way) → Option Way
onward None f = None
onward (Some w) f = f w

-- the loop of `route_feasible`, over some stops
abbrev pub reach_all : Customers → DistanceMatrix → List ℕ → Way → Option Way
reach_all cs m stops w = walk Some onward (reach cs m) stops w

-- "The return leg is added; then distance ≤ limit and duration ≤ limit."
unfoldable pub home_allowed : DistanceMatrix → ℕ → RouteLimits → Way → Bool
home_allowed m depot limits w = allow limits (w.distance ⊕ get m w.prev depot) (w.time ⊕ travel_time m w.prev depot)

abbrev pub homeward : DistanceMatrix → ℕ → RouteLimits → Option Way → Bool
homeward m depot limits None = false
homeward m depot limits (Some w) = home_allowed m depot limits w

abbrev pub feasible_with : Customers → DistanceMatrix → ℕ → RouteLimits → List ℕ → Option VehicleBreak → Bool
feasible_with cs m depot limits route None = homeward m depot limits (reach_all cs m route (set_out depot))
feasible_with cs m depot limits route (Some rest) =
    is_feasible (limited limits (schedule cs m depot rest route))

-- `route_feasible`
unfoldable pub route_feasible : Customers → DistanceMatrix → ℕ → RouteLimits → List ℕ → Bool
route_feasible cs m depot limits route = feasible_with cs m depot limits route limits.rest
