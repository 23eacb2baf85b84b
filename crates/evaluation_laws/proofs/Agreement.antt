-- `route_eval` answers exactly where `route_feasible` says yes, and where the check is not needed every route passes it.
-- The check's walk is what remains of the evaluation's when lateness is forgotten: so at one stop, over the stops, and at home.
-- Assumes nothing.
use Rattle.std.specs.Prelude.{Option, Some, None}
use Prim.Native.Nat.{ℕ}
use mathlib.Core.Path.{◌≡◌, refl, ap, ◌∙◌}
use mathlib.Core.Bool.{Bool, true, false, true≢false, false≢true, cond, not, ◌&&◌}
use mathlib.Core.List.{List, [], ◌∷◌}
use lib.ListN.{get_or}
use lib.Ieee.{Float, nan}
use Rattle.trial_route.specs.floats.Binary64.{◌⊕◌}
use Rattle.trial_route.specs.laws.All.{All, all_default}
use Rattle.trial_route.specs.laws.Searches.{and_first, and_second, or_neither, any_none}
use Rattle.trial_route.specs.laws.Walks.{walk}
use Rattle.trial_route.specs.models.declared.customer.TimeWindow.{TimeWindow}
use Rattle.trial_route.specs.models.declared.customer.Customer.{Customer}
use Rattle.trial_route.specs.models.declared.limits.RouteLimits.{RouteLimits}
use Rattle.trial_route.specs.models.TimeWindow.{waiting_time, is_violated, lateness}
use Rattle.trial_route.specs.models.Customer.{Customers, customer_at, windowed}
use Rattle.trial_route.specs.models.RouteLimits.{no_limit, no_rest, is_unlimited, within, allow}
use Rattle.trial_route.specs.models.Problem.{DistanceMatrix}
use Rattle.trial_route.specs.distance.Matrix.{get, travel_time}
use Rattle.trial_route.specs.evaluation.declared.check.Way.{Way}
use Rattle.trial_route.specs.evaluation.declared.eval.Walk.{Walk}
use Rattle.trial_route.specs.labels.declared.Label.{Label}
use Rattle.trial_route.specs.models.declared.vehicle.VehicleBreak.{VehicleBreak}
use Rattle.trial_route.specs.labels.Labels.{too_late, in_time, at_window, serve_at}
use Rattle.trial_route.specs.break_clock.Schedule.{ended}
use Rattle.trial_route.specs.evaluation.Eval.{is_feasible, walked, drive, onward, drive_all, home, homeward, eval_with, route_eval, set_out}
use Rattle.trial_route.specs.evaluation.Check.{has_time_windows, route_checks_needed, unless_hard, departure_in, departure, reached, reach, reach_all, home_allowed, feasible_with, route_feasible, onward as way-onward, homeward as way-homeward, set_out as way_out}

-- ---- lateness forgotten

abbrev way_of : Walk → Way
way_of w = record { time = w.label.time; distance = w.distance; prev = w.prev }

abbrev reached_by : Option Walk → Option Way
reached_by None = None
reached_by (Some w) = Some (way_of w)

abbrev left : Option Label → Option Float
left None = None
left (Some l) = Some l.time

left_late : (l : Label) (time late : Float) (taken : Option (ℕ × Float)) (p : Option Float) → left (too_late l time late taken p) ≡ unless_hard p time
left_late l time late taken None = refl
left_late l time late taken (Some each) = refl

left_window : (l : Label) (ready : Float) (taken : Option (ℕ × Float)) (c : Customer) (w : Option TimeWindow) → left (at_window l ready taken c w) ≡ departure_in ready c w
left_window l ready taken c None = refl
left_window l ready taken c (Some w) = go (is_violated w ready)
  where
    time : Float
    time = ready ⊕ waiting_time w ready ⊕ c.service_duration

    go : (b : Bool) → left (cond b (too_late l time (lateness w ready) taken c.lateness_penalty) (in_time l time taken))
        ≡ cond b (unless_hard c.lateness_penalty time) (Some time)
    go true = left_late l time (lateness w ready) taken c.lateness_penalty
    go false = refl

left_served : (l : Label) (ready : Float) (taken : Option (ℕ × Float)) (c : Customer) → left (serve_at l ready taken c) ≡ departure ready c
unfolding serve_at departure
left_served l ready taken c = left_window l ready taken c c.time_window

walked_left : (d : Float) (c : ℕ) (s : Option Label) → reached_by (walked d c s) ≡ reached d c (left s)
walked_left d c None = refl
walked_left d c (Some l) = refl

module _ (cs : Customers) (m : DistanceMatrix) where
  step : (w : Walk) (c : ℕ) → reached_by (drive cs m w c) ≡ reach cs m (way_of w) c
  unfolding drive reach
  step w c =
      let d = w.distance ⊕ get m w.prev c in
      let at = w.label.time ⊕ travel_time m w.prev c in
      walked_left d c (serve_at w.label at None (customer_at cs c))
      ∙ ap (reached d c) (left_served w.label at None (customer_at cs c))

  stops : (route : List ℕ) (w : Walk) → reached_by (drive_all cs m route w) ≡ reach_all cs m route (way_of w)
  unfolding walk
  stops [] w = refl
  stops (c ∷ route) w = go (drive cs m w c) (λ v. stops route v) ∙ ap (λ (x : Option Way). way-onward x (λ v. reach_all cs m route v)) (step w c)
    where
      go : (x : Option Walk) → ((v : Walk) → reached_by (drive_all cs m route v) ≡ reach_all cs m route (way_of v))
          → reached_by (onward x (λ v. drive_all cs m route v)) ≡ way-onward (reached_by x) (λ v. reach_all cs m route v)
      go None f = refl
      go (Some v) f = f v

  homes : (depot : ℕ) (limits : RouteLimits) (x : Option Walk) → is_feasible (homeward m depot limits x) ≡ way-homeward m depot limits (reached_by x)
  unfolding home home_allowed
  homes depot limits None = refl
  homes depot limits (Some w) = go (allow limits (w.distance ⊕ get m w.prev depot) (w.label.time ⊕ travel_time m w.prev depot))
    where
      go : (b : Bool) → is_feasible (cond b (ended w.label (w.distance ⊕ get m w.prev depot) (w.label.time ⊕ travel_time m w.prev depot) None) None) ≡ b
      go true = refl
      go false = refl

  -- `route_eval(..).is_some()` is `route_feasible(..)`
  pub eval_where_feasible : (depot : ℕ) (limits : RouteLimits) (route : List ℕ)
      → is_feasible (route_eval cs m depot limits route) ≡ route_feasible cs m depot limits route
  unfolding route_eval route_feasible
  eval_where_feasible depot limits route = go limits.rest
    where
      go : (r : Option VehicleBreak) → is_feasible (eval_with cs m depot limits route r) ≡ feasible_with cs m depot limits route r
      go None = homes depot limits (drive_all cs m route (set_out depot)) ∙ ap (way-homeward m depot limits) (stops route (set_out depot))
      go (Some rest) = refl

-- ---- where the check is not needed

both_of : (a b : Bool) → not (a && b) ≡ false → (a ≡ true) × (b ≡ true)
both_of true true e = (refl, refl)
both_of true false e = absurd (true≢false e)
both_of false b e = absurd (true≢false e)

unlimited : (l : Option Float) (x : Float) → no_limit l ≡ true → within l x ≡ true
unlimited None x e = refl
unlimited (Some most) x e = absurd (false≢true e)

unrested : (r : Option VehicleBreak) → no_rest r ≡ true → r ≡ None
unrested None e = refl
unrested (Some rest) e = absurd (false≢true e)

-- without a window every stop is reached
windowless : (arrival : Float) (c : Customer) → c.time_window ≡ None → departure arrival c ≡ Some (arrival ⊕ c.service_duration)
unfolding departure
windowless arrival c e = ap (departure_in arrival c) e

all_open : (cs : Customers) (m : DistanceMatrix) → All (λ f. windowed f ≡ false) cs.flags → (depot : ℕ) (limits : RouteLimits)
    → ((d t : Float) → allow limits d t ≡ true) → (route : List ℕ) (w : Way) → way-homeward m depot limits (reach_all cs m route w) ≡ true
unfolding walk reach home_allowed
all_open cs m a depot limits free [] w = free (w.distance ⊕ get m w.prev depot) (w.time ⊕ travel_time m w.prev depot)
all_open cs m a depot limits free (c ∷ route) w =
    let shut : windowed (get_or cs.flags c 0) ≡ false = all_default {P = λ f. windowed f ≡ false} c a refl in
    let none : (customer_at cs c).time_window ≡ None =
    ap (λ (b : Bool). cond b (Some (record { ready = get_or cs.ready c nan; due = get_or cs.due c nan })) None) shut in
    let at = w.time ⊕ travel_time m w.prev c in
    let d = w.distance ⊕ get m w.prev c in
    ap (λ (x : Option Float). way-homeward m depot limits (way-onward (reached d c x) (λ v. reach_all cs m route v))) (windowless at (customer_at cs c) none)
    ∙ all_open cs m a depot limits free route (record { time = at ⊕ get_or cs.service c nan; distance = d; prev = c })

-- "Without either, every sequence is feasible": what the searches rely on when they make no check. It holds of every list of stops.
pub unneeded_passes : (cs : Customers) (m : DistanceMatrix) (depot : ℕ) (limits : RouteLimits) (route : List ℕ)
    → route_checks_needed cs.flags limits ≡ false → route_feasible cs m depot limits route ≡ true
unfolding has_time_windows route_feasible
unneeded_passes cs m depot limits route e =
    let parts = or_neither (has_time_windows cs.flags) (not (is_unlimited limits)) e in
    let free = both_of (no_limit limits.max_distance) (no_limit limits.max_duration && no_rest limits.rest) parts.1 in
    let duration = and_first (no_limit limits.max_duration) (no_rest limits.rest) free.1 in
    let rest = and_second (no_limit limits.max_duration) (no_rest limits.rest) free.1 in
    ap (feasible_with cs m depot limits route) (unrested limits.rest rest)
    ∙ all_open cs m (any_none windowed cs.flags parts.0) depot limits
    (λ d t. rw (unlimited limits.max_distance d free.0) (unlimited limits.max_duration t duration)) route (way_out depot)
