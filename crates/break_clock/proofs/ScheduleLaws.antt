-- Laws of specs/Schedule, each from the facts that the code has where it needs it: what the calls on the way ensure, what the tests say.
-- Assumes nothing.
use Rattle.std.specs.Prelude.{Option, Some, None}
use Prim.Native.Nat.{ℕ, suc, ◌+◌, ◌-◌, ◌<◌, ◌≤◌}
use native.Mathlib.Omega.{arith}
use mathlib.Core.Path.{◌≡◌, refl, sym, ap, subst, ◌∙◌}
use mathlib.Core.List.{List, [], ◌∷◌}
use lib.ListN.{length, get_or, take, drop, length-drop}
use lib.Seq.{length-take-le}
use lib.Ieee.{Float}
use Rattle.labels.specs.floats.Binary64.{◌⊕◌}
use Rattle.labels.specs.laws.All.{All, all_take}
use Rattle.labels.specs.laws.Edits.{insert_at, all_insert_at}
use Rattle.labels.specs.laws.Walks.{walk, Walking, walking_start, walking_on, walking_stuck, walking_end, walk_insert, walk_rule}
use Rattle.labels.specs.models.declared.vehicle.VehicleBreak.{VehicleBreak}
use Rattle.labels.specs.models.Customer.{Customers, customer_at}
use Rattle.labels.specs.models.Problem.{DistanceMatrix, Fit, Stops}
use Rattle.labels.specs.distance.Matrix.{get, travel_time}
use Rattle.labels.specs.declared.Label.{Label}
use Rattle.labels.specs.Labels.{served_from, earlier}
use Rattle.break_clock.specs.declared.schedule.BreakClock.{BreakClock}
use Rattle.break_clock.specs.declared.schedule.Riding.{Riding}
use Rattle.break_clock.specs.declared.route_eval.RouteEval.{RouteEval}
use Rattle.break_clock.specs.Schedule.{clocked, push, set_out, pushed, ride, onward, ride_all, ride_home, homeward, schedule}
use Rattle.break_clock.proofs.StopLaws.{stops_all, tail_part}

-- ---- one stop of the ride

-- where a ride stands after a stop: at that stop, one index further
clocked_on : (before after : Option Label) (c i : ℕ) (k : BreakClock) → clocked before after c i ≡ Some k → (k.prev ≡ c) × (k.index ≡ i)
clocked_on (Some l) after c i k e = (cc, cc)
clocked_on None (Some l) c i k e = (cc, cc)
clocked_on None None c i k e = (cc, cc)

pushed_on : (d : Float) (s : Option BreakClock) (v : Riding) → pushed d s ≡ Some v → s ≡ Some v.clock
pushed_on d None v e = cc
pushed_on d (Some k) v e = cc

push_goes : (cs : Customers) (m : DistanceMatrix) (b : VehicleBreak) (k : BreakClock) (c : ℕ) (j : BreakClock) → push cs m b k c ≡ Some j
    → (j.prev ≡ c) × (j.index ≡ k.index + 1)
unfolding push
push_goes cs m b k c j e =
    let travel = travel_time m k.prev c in
    let cu = customer_at cs c in
    clocked_on (served_from k.before travel k.index None cu)
    (earlier (served_from k.after travel k.index None cu) (served_from k.before travel k.index (Some b) cu))
    c (k.index + 1) j e

pub ride_goes : (cs : Customers) (m : DistanceMatrix) (b : VehicleBreak) (r : Riding) (c : ℕ) (v : Riding)
    → ride cs m b r c ≡ Some v → (v.clock.prev ≡ c) × (v.clock.index ≡ r.clock.index + 1)
unfolding ride
ride_goes cs m b r c v e =
    push_goes cs m b r.clock c v.clock (pushed_on (r.distance ⊕ get m r.clock.prev c) (push cs m b r.clock c) v e)

-- ---- the ride over some stops

pub record RidingAlong (cs : Customers) (m : DistanceMatrix) (b : VehicleBreak) (stops : List ℕ) (first r : Riding) (i : ℕ) : Type 0 where
  pub fit : Fit cs m
  pub places : Stops m.size stops
  pub there : r.clock.prev < m.size
  pub counted : r.clock.index ≡ first.clock.index + i
  pub few : first.clock.index + length stops ≤ 257
  pub walking : Walking Some onward (ride cs m b) stops first r i

module _ (cs : Customers) (m : DistanceMatrix) (b : VehicleBreak) (stops : List ℕ) (first : Riding) where
  pub along_start : Fit cs m → Stops m.size stops → first.clock.prev < m.size → first.clock.index + length stops ≤ 257
      → RidingAlong cs m b stops first first 0
  along_start f s h l =
      record { fit = f; places = s; there = h; counted = omega arith; few = l; walking = walking_start Some onward (ride cs m b) stops first }

  pub along_on : (r v : Riding) (i : ℕ) (x : Option Riding) → RidingAlong cs m b stops first r i → i < length stops
      → x ≡ ride cs m b r (get_or stops i 0) → x ≡ Some v → RidingAlong cs m b stops first v (i + 1)
  along_on r v i x a h ex e =
      let on = ride_goes cs m b r (get_or stops i 0) v (sym ex ∙ e) in
      record {
        fit = a.fit;
        places = a.places;
        there = rw on.0 (a.places.each i h);
        counted = omega (arith, on.1, a.counted);
        few = a.few;
        walking = walking_on Some onward (ride cs m b) stops first r v i x (λ f. refl) a.walking h ex e;
      }

  pub along_stuck : (r : Riding) (i : ℕ) (x : Option Riding) → RidingAlong cs m b stops first r i → i < length stops
      → x ≡ ride cs m b r (get_or stops i 0) → x ≡ None → None ≡ ride_all cs m b stops first
  along_stuck r i x a h ex e = walking_stuck Some onward (ride cs m b) stops first r i x None (λ f. refl) a.walking h ex e

  pub along_end : (r : Riding) (i : ℕ) → RidingAlong cs m b stops first r i → length stops ≤ i → Some r ≡ ride_all cs m b stops first
  along_end r i a h = walking_end Some onward (ride cs m b) stops first r i a.walking h

pub ruleset along_laws = (along_start, along_on, along_stuck, along_end)

-- ---- the whole route

pub schedule_stuck : (cs : Customers) (m : DistanceMatrix) (depot : ℕ) (b : VehicleBreak) (route : List ℕ) (first : Riding) (x : Option Riding)
    → first ≡ set_out depot → x ≡ ride_all cs m b route first → x ≡ None → None ≡ schedule cs m depot b route
unfolding schedule
schedule_stuck cs m depot b route first x ef ex e = sym (ap (homeward m b depot) (ap (ride_all cs m b route) (sym ef) ∙ sym ex ∙ e))

pub schedule_home : (cs : Customers) (m : DistanceMatrix) (depot : ℕ) (b : VehicleBreak) (route : List ℕ) (first r : Riding) (x : Option Riding) (e : Option RouteEval)
    → first ≡ set_out depot → x ≡ ride_all cs m b route first → x ≡ Some r → e ≡ ride_home m b depot r → e ≡ schedule cs m depot b route
unfolding schedule
schedule_home cs m depot b route first r x v ef ex e ev = ev ∙ sym (ap (homeward m b depot) (ap (ride_all cs m b route) (sym ef) ∙ sym ex ∙ e))

pub ruleset schedule_laws = (schedule_stuck, schedule_home)

-- ---- where a ride starts and ends, as its callers ask: at a place, and each stop one index further

pub out_there : (r : Riding) (depot n : ℕ) → r ≡ set_out depot → depot < n → r.clock.prev < n
out_there r depot n e h = rw e h

pub out_few : (r : Riding) (depot l : ℕ) → r ≡ set_out depot → l ≤ 256 → r.clock.index + l ≤ 257
out_few r depot l e h = rw e (omega arith)

ride_count : (cs : Customers) (m : DistanceMatrix) (b : VehicleBreak) (stops : List ℕ) (first r : Riding) → ride_all cs m b stops first ≡ Some r
    → r.clock.index ≡ first.clock.index + length stops
unfolding walk
ride_count cs m b [] first r e = let same : first ≡ r = cc in rw same (omega arith)
ride_count cs m b (c ∷ stops) first r e = go (ride cs m b first c) (λ t. ride_goes cs m b first c t) (λ t. ride_count cs m b stops t r) e
  where
    go : (x : Option Riding) → ((t : Riding) → x ≡ Some t → (t.clock.prev ≡ c) × (t.clock.index ≡ first.clock.index + 1))
        → ((t : Riding) → ride_all cs m b stops t ≡ Some r → r.clock.index ≡ t.clock.index + length stops)
        → onward x (λ t. ride_all cs m b stops t) ≡ Some r → r.clock.index ≡ first.clock.index + suc (length stops)
    go None on rest f = let z : ◌≡◌ {A = ℕ} 0 1 = cc in omega arith
    go (Some t) on rest f = omega (arith, rest t f, (on t refl).1)

-- a place, for as long as a ride goes on
abbrev Place : ℕ → Option Riding → Type 0
Place n None = Unit
Place n (Some r) = r.clock.prev < n

pub ridden_cases : (P : Option Riding → Type 0) → P None → ((r : Riding) → P (Some r)) → (x : Option Riding) → P x
ridden_cases P a f None = a
ridden_cases P a f (Some r) = f r

ride_place : (cs : Customers) (m : DistanceMatrix) (b : VehicleBreak) (r : Riding) (c : ℕ) → c < m.size → Place m.size (ride cs m b r c)
ride_place cs m b r c h = go (ride cs m b r c) (λ v e. (ride_goes cs m b r c v e).0)
  where
    go : (x : Option Riding) → ((v : Riding) → x ≡ Some v → v.clock.prev ≡ c) → Place m.size x
    go None f = tt
    go (Some v) f = rw (f v refl) h

module _ (cs : Customers) (m : DistanceMatrix) (b : VehicleBreak) where
  all_there : (stops : List ℕ) (first r : Riding) (x : Option Riding) → All (λ c. c < m.size) stops → first.clock.prev < m.size
      → x ≡ ride_all cs m b stops first → x ≡ Some r → r.clock.prev < m.size
  all_there stops first r x a h ex e =
      subst (Place m.size) (sym ex ∙ e)
      (walk_rule Some onward (ride cs m b) None (λ s f. refl) (λ f. refl) ridden_cases (Place m.size) (λ c. c < m.size) tt
      (λ w c h _. ride_place cs m b w c h) stops first a h)

  -- the whole route, its front part, the route with a stop put in
  module _ (route : List ℕ) (r : Riding) (x : Option Riding) (s : Stops m.size route) where
    pub ride_all_there : (first : Riding) → first.clock.prev < m.size → x ≡ ride_all cs m b route first → x ≡ Some r → r.clock.prev < m.size
    ride_all_there first h ex e = all_there route first r x (stops_all m.size route s) h ex e

    pub front_there : (pos depot : ℕ) → depot < m.size → x ≡ ride_all cs m b (take pos route) (set_out depot) → x ≡ Some r
        → r.clock.prev < m.size
    front_there pos depot h ex e = all_there (take pos route) (set_out depot) r x (all_take pos (stops_all m.size route s)) h ex e

    pub trial_there : (pos c depot : ℕ) → c < m.size → depot < m.size → x ≡ ride_all cs m b (insert_at pos c route) (set_out depot) → x ≡ Some r
        → r.clock.prev < m.size
    trial_there pos c depot g h ex e = all_there (insert_at pos c route) (set_out depot) r x (all_insert_at pos c g (stops_all m.size route s)) h ex e

module _ (cs : Customers) (m : DistanceMatrix) (b : VehicleBreak) (r v : Riding) (c : ℕ) (x : Option Riding) where
  pub ride_there : (n : ℕ) → c < n → x ≡ ride cs m b r c → x ≡ Some v → v.clock.prev < n
  ride_there n h ex e = rw (ride_goes cs m b r c v (sym ex ∙ e)).0 h

  pub ride_counted : x ≡ ride cs m b r c → x ≡ Some v → v.clock.index ≡ r.clock.index + 1
  ride_counted ex e = (ride_goes cs m b r c v (sym ex ∙ e)).1

pub ruleset ride_ends = (out_there, out_few, ride_there, ride_all_there)

-- ---- a ride over a part of a route, and over a route with a stop put in

pub front_is : (cs : Customers) (m : DistanceMatrix) (b : VehicleBreak) (route : List ℕ) (pos depot : ℕ) (first : Riding) (x : Option Riding)
    → first ≡ set_out depot → x ≡ ride_all cs m b (take pos route) first → x ≡ ride_all cs m b (take pos route) (set_out depot)
front_is cs m b route pos depot first x e ex = ex ∙ ap (ride_all cs m b (take pos route)) e

pub tail_is : (cs : Customers) (m : DistanceMatrix) (b : VehicleBreak) (route : List ℕ) (pos : ℕ) (r : Riding) (x : Option Riding)
    → x ≡ ride_all cs m b (take (length route - pos) (drop pos route)) r → x ≡ ride_all cs m b (drop pos route) r
tail_is cs m b route pos r x ex = ex ∙ ap (λ (l : List ℕ). ride_all cs m b l r) (tail_part pos route)

-- the tail's stops are counted on from the stop put in
pub tail_few : (route : List ℕ) (pos i : ℕ) → i ≡ pos + 1 → pos ≤ length route → length route ≤ 256 → i + length (take (length route - pos) (drop pos route)) ≤ 257
tail_few route pos i e h l = rw (tail_part pos route, length-drop pos route) (omega arith)

pub front_few : (r : Riding) (depot pos : ℕ) (route : List ℕ) → r ≡ set_out depot → length route ≤ 256 → pos ≤ length route
    → r.clock.index + length (take pos route) ≤ 257
front_few r depot pos route e l h = rw (e, length-take-le pos route h) (omega arith)

-- a ride over one stop is the drive to it
onward_on : (x : Option Riding) → onward x Some ≡ x
onward_on None = refl
onward_on (Some r) = refl

ride_one : (cs : Customers) (m : DistanceMatrix) (b : VehicleBreak) (r : Riding) (c : ℕ) (x : Option Riding)
    → x ≡ ride_all cs m b (c ∷ []) r → x ≡ ride cs m b r c
unfolding walk
ride_one cs m b r c x ex = ex ∙ onward_on (ride cs m b r c)

pub one_there : (cs : Customers) (m : DistanceMatrix) (b : VehicleBreak) (r v : Riding) (c : ℕ) (x : Option Riding) (n : ℕ) → c < n
    → x ≡ ride_all cs m b (c ∷ []) r → x ≡ Some v → v.clock.prev < n
one_there cs m b r v c x n h ex e = ride_there cs m b r v c x n h (ride_one cs m b r c x ex) e

module _ (cs : Customers) (m : DistanceMatrix) (b : VehicleBreak) (route : List ℕ) (pos c : ℕ) (first : Riding) where
  parts : ride_all cs m b (insert_at pos c route) first
      ≡ onward (ride_all cs m b (take pos route) first) (λ t. onward (ride cs m b t c) (λ u. ride_all cs m b (drop pos route) u))
  parts = walk_insert Some onward (ride cs m b) None (λ s f. refl) (λ f. refl) ridden_cases pos c route first

  pub trial_front : (x : Option Riding) → x ≡ ride_all cs m b (take pos route) first → x ≡ None → None ≡ ride_all cs m b (insert_at pos c route) first
  trial_front x ex e = sym (parts ∙ rw (← ex, e))

  pub trial_stop : (r : Riding) (x y : Option Riding) → x ≡ ride_all cs m b (take pos route) first → x ≡ Some r → y ≡ ride_all cs m b (c ∷ []) r → y ≡ None
      → None ≡ ride_all cs m b (insert_at pos c route) first
  trial_stop r x y ex e ey f = sym (parts ∙ rw (← ex, e, ← ride_one cs m b r c y ey, f))

  pub trial_tail : (r v : Riding) (x y z : Option Riding) → x ≡ ride_all cs m b (take pos route) first → x ≡ Some r → y ≡ ride_all cs m b (c ∷ []) r → y ≡ Some v
      → z ≡ ride_all cs m b (drop pos route) v → z ≡ ride_all cs m b (insert_at pos c route) first
  trial_tail r v x y z ex e ey f ez = ez ∙ sym (parts ∙ rw (← ex, e, ← ride_one cs m b r c y ey, f))

pub ruleset trial_laws = (trial_front, trial_stop, trial_tail)

-- the index where the front part ends, and where the stop put in does
module _ (cs : Customers) (m : DistanceMatrix) (b : VehicleBreak) (route : List ℕ) (pos depot : ℕ) (r : Riding) (x : Option Riding)
    (h : pos ≤ length route) (ex : x ≡ ride_all cs m b (take pos route) (set_out depot)) (e : x ≡ Some r) where
  front_counted : r.clock.index ≡ pos
  front_counted = omega (arith, ride_count cs m b (take pos route) (set_out depot) r (sym ex ∙ e), length-take-le pos route h)

  pub front_room : length route ≤ 256 → r.clock.index + 1 ≤ 257
  front_room few = omega (arith, front_counted)

  pub stop_index : (c : ℕ) (v : Riding) (y : Option Riding) → y ≡ ride_all cs m b (c ∷ []) r → y ≡ Some v → v.clock.index ≡ pos + 1
  stop_index c v y ey f = omega (arith, front_counted, ride_counted cs m b r v c y (ride_one cs m b r c y ey) f)
