-- A route with a driver's break (evaluation/schedule.rs; "The break"). Two labels run, before and after the break, and either may be dead.
-- Assumes nothing.
use Rattle.std.specs.Prelude.{ℕ, ◌+◌, List, cond, ◌||◌, Float, Option, Some, None}
use Rattle.std.specs.Float.Ieee.{le}
use Rattle.labels.specs.floats.Binary64.{◌⊕◌, 0f}
use Rattle.labels.specs.laws.Walks.{walk}
use Rattle.labels.specs.models.declared.vehicle.VehicleBreak.{VehicleBreak}
use Rattle.labels.specs.models.Customer.{Customers, customer_at}
use Rattle.labels.specs.models.Problem.{DistanceMatrix}
use Rattle.labels.specs.distance.Matrix.{get, travel_time}
use Rattle.labels.specs.declared.Label.{Label}
use Rattle.labels.specs.Labels.{START, served_from, earlier, lives}
use Rattle.break_clock.specs.declared.schedule.BreakClock.{BreakClock}
use Rattle.break_clock.specs.declared.schedule.Riding.{Riding}
use Rattle.break_clock.specs.declared.route_eval.RouteEval.{RouteEval}
use Rattle.break_clock.specs.RouteEval.{eval_of}

-- ---- the two labels

-- BreakClock::new
abbrev pub break_clock_new : ℕ → BreakClock
break_clock_new depot = record { before = Some START; after = None; prev = depot; index = 0 }

-- "Both dead: not feasible."
abbrev pub clocked : Option Label → Option Label → ℕ → ℕ → Option BreakClock
clocked before after prev index =
    cond (lives before || lives after) (Some (record { before = before; after = after; prev = prev; index = index })) None

-- BreakClock::push
unfoldable pub push : Customers → DistanceMatrix → VehicleBreak → BreakClock → ℕ → Option BreakClock
push cs m b k c =
    let travel = travel_time m k.prev c in
    let customer = customer_at cs c in
    let skipped = served_from k.before travel k.index None customer in
    let here = served_from k.before travel k.index (Some b) customer in
    let carried = served_from k.after travel k.index None customer in
    clocked skipped (earlier carried here) c (k.index + 1)

-- the end of a route at a label
abbrev pub ended : Label → Float → Float → Option (ℕ × Float) → Option RouteEval
ended l distance duration taken = Some (eval_of l distance duration taken)

-- "otherwise after decides"
abbrev pub finish_after : Option Label → Float → Float → Option RouteEval
finish_after None distance back = None
finish_after (Some l) distance back = ended l distance (l.time ⊕ back) l.rest

-- "no break is reported exactly if before lives and time + back ≤ earliest"
abbrev pub finish_before : Option Label → Option Label → VehicleBreak → Float → Float → Option RouteEval
finish_before None after b distance back = finish_after after distance back
finish_before (Some l) after b distance back =
    cond (le (l.time ⊕ back) b.earliest) (ended l distance (l.time ⊕ back) None) (finish_after after distance back)

-- BreakClock::finish
unfoldable pub finish : DistanceMatrix → VehicleBreak → ℕ → BreakClock → Float → Option RouteEval
finish m b depot k distance = finish_before k.before k.after b distance (travel_time m k.prev depot)

-- ---- the route

-- `schedule` at its start: the clock, and the distance beside it
abbrev pub set_out : ℕ → Riding
set_out depot = record { clock = break_clock_new depot; distance = 0f }

abbrev pub pushed : Float → Option BreakClock → Option Riding
pushed distance None = None
pushed distance (Some k) = Some (record { clock = k; distance = distance })

-- a turn of the loop of `schedule`
unfoldable pub ride : Customers → DistanceMatrix → VehicleBreak → Riding → ℕ → Option Riding
ride cs m b r c = pushed (r.distance ⊕ get m r.clock.prev c) (push cs m b r.clock c)

abbrev pub onward : Option Riding → (Riding → Option Riding) → Option Riding
onward None f = None
onward (Some r) f = f r

-- the loop of `schedule`, over some stops
abbrev pub ride_all : Customers → DistanceMatrix → VehicleBreak → List ℕ → Riding → Option Riding
ride_all cs m b stops r = walk Some onward (ride cs m b) stops r

-- the end of `schedule`
unfoldable pub ride_home : DistanceMatrix → VehicleBreak → ℕ → Riding → Option RouteEval
ride_home m b depot r = finish m b depot r.clock (r.distance ⊕ get m r.clock.prev depot)

abbrev pub homeward : DistanceMatrix → VehicleBreak → ℕ → Option Riding → Option RouteEval
homeward m b depot None = None
homeward m b depot (Some r) = ride_home m b depot r

-- `schedule`
unfoldable pub schedule : Customers → DistanceMatrix → ℕ → VehicleBreak → List ℕ → Option RouteEval
schedule cs m depot b route = homeward m b depot (ride_all cs m b route (set_out depot))
