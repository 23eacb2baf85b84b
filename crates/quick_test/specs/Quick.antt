-- The quick test (route_minimization.rs, `Pool`): when each stop of a route is left, how late each may be reached, and whether a stop may go in
-- between. Assumes nothing.
use Rattle.std.specs.Prelude.{ℕ, ◌-◌, List, [], ◌∷◌, Bool, true, false, cond, length, get_or, eqb, ltb, Float, Option, Some, None}
use Rattle.std.specs.Prelude.{Option, None, Some}
use Rattle.std.specs.Float.{nan}
use Rattle.std.specs.Float.Ieee.{lt, le}
use Rattle.insertion_cost.specs.floats.Binary64.{◌⊕◌, ◌⊖◌, ◌⊗◌, 0f, 1f, 1e-9, +∞, -∞, max, min, abs}
use Rattle.insertion_cost.specs.models.declared.customer.Customer.{Customer}
use Rattle.insertion_cost.specs.models.declared.customer.TimeWindow.{TimeWindow}
use Rattle.insertion_cost.specs.models.TimeWindow.{waiting_time, is_violated}
use Rattle.insertion_cost.specs.models.Customer.{Customers, customer_at}
use Rattle.insertion_cost.specs.models.Problem.{DistanceMatrix, Problem, depot}
use Rattle.insertion_cost.specs.distance.Matrix.{travel_time}
use Rattle.insertion_cost.specs.route_cost.Route.{prev_stop}
use Rattle.insertion_cost.specs.route_load.Feasible.{constrained}

-- ---- forward

abbrev pub served_in : Float → Customer → Option TimeWindow → Option Float
served_in arrival c None = Some (arrival ⊕ c.service_duration)
served_in arrival c (Some w) = cond (is_violated w arrival) None (Some (arrival ⊕ waiting_time w arrival ⊕ c.service_duration))

-- Pool::served_at: when the service of c ends after an arrival; missed once its window has closed, with a penalty or without
unfoldable pub served_at : Float → Customer → Option Float
served_at arrival c = served_in arrival c c.time_window

-- a departure before those of the later stops, if all are in time
abbrev pub with_departure : Float → Option (List Float) → Option (List Float)
with_departure time None = None
with_departure time (Some later) = Some (time ∷ later)

abbrev pub then_on : Option Float → (Float → Option (List Float)) → Option (List Float)
then_on None on = None
then_on (Some time) on = with_departure time (on time)

-- the departures from some stops of a vehicle that leaves prev at `time`
unfoldable pub departures_from : Customers → DistanceMatrix → Float → ℕ → List ℕ → Option (List Float)
departures_from cs m time prev [] = Some []
departures_from cs m time prev (c ∷ rest) = then_on (served_at (time ⊕ travel_time m prev c) (customer_at cs c)) (λ t. departures_from cs m t c rest)

-- Pool::departures: none where one of the stops is reached after its window closes
abbrev pub departures : Customers → DistanceMatrix → ℕ → List ℕ → Option (List Float)
departures cs m depot route = departures_from cs m 0f depot route

-- ---- backward

abbrev pub earliest_start : Option TimeWindow → Float
earliest_start None = -∞
earliest_start (Some w) = w.ready

abbrev pub latest_start : Option TimeWindow → Float
latest_start None = +∞
latest_start (Some w) = w.due

-- a turn of the loop of `latest_arrivals`: how late c may be reached where the next stop is to be reached by `by`, −∞ where no arrival is in time
unfoldable pub latest_arrival : DistanceMatrix → Customer → ℕ → ℕ → Float → Float
latest_arrival m customer c next by =
    let start-by = by ⊖ travel_time m c next ⊖ customer.service_duration in
    cond (lt start-by (earliest_start customer.time_window)) -∞ (min (latest_start customer.time_window) start-by)

-- before the latest arrivals of the later stops, whose first bounds it; at the end +∞ does
abbrev pub with_arrival : Customers → DistanceMatrix → ℕ → ℕ → List ℕ → List Float → List Float
with_arrival cs m depot c rest later = latest_arrival m (customer_at cs c) c (get_or rest 0 depot) (get_or later 0 +∞) ∷ later

-- Pool::latest_arrivals: "latest arrivals backward from +∞"
unfoldable pub latest_arrivals : Customers → DistanceMatrix → ℕ → List ℕ → List Float
latest_arrivals cs m depot [] = []
latest_arrivals cs m depot (c ∷ rest) = with_arrival cs m depot c rest (latest_arrivals cs m depot rest)

-- ---- the test

-- "tolerance 1e-9 × max(|bound|, 1). A bound of −∞ makes NaN, and the test says no."
abbrev pub in_time : Float → Float → Bool
in_time arrival bound = le arrival (bound ⊕ 1e-9 ⊗ max (abs bound) 1f)

-- the stop after pos, if there is one, is still reached in time
abbrev pub reaches_next : DistanceMatrix → List ℕ → List Float → ℕ → ℕ → Option Float → Bool
reaches_next m route latest pos c None = false
reaches_next m route latest pos c (Some left) =
    cond (ltb pos (length route)) (in_time (left ⊕ travel_time m c (get_or route pos 0)) (get_or latest pos nan)) true

-- when the stop before pos is left
abbrev pub left_before : List Float → ℕ → Float
left_before departures pos = cond (eqb pos 0) 0f (get_or departures (pos - 1) nan)

-- Pool::may_fit
unfoldable pub may_fit : Customers → DistanceMatrix → ℕ → List ℕ → List Float → List Float → ℕ → ℕ → Bool
may_fit cs m depot route departures latest pos c =
    reaches_next m route latest pos c
    (served_at (left_before departures pos ⊕ travel_time m (prev_stop depot route pos) c) (customer_at cs c))

-- ---- before the positions of a route are tried

-- `(departures, latest)`
pub record Times : Type 0 where
  pub departures : List Float
  pub latest : List Float

abbrev pub with_latest : List Float → Option (List Float) → Option Times
with_latest latest None = None
with_latest latest (Some departures) = Some (record { departures = departures; latest = latest })

-- "Where the check is needed, a route whose departures miss a window is passed over whole": none. Where it is not, both are empty and not read.
unfoldable pub times : Problem → List ℕ → Option Times
times p route =
    cond (constrained p)
    (with_latest (latest_arrivals p.places p.roads (depot p) route) (departures p.places p.roads (depot p) route))
    (Some (record { departures = []; latest = [] }))
