-- Laws of specs/Check, each from the facts that the code has where it needs it. Assumes nothing.
use Rattle.std.specs.Prelude.{Option, Some, None}
use Prim.Native.Nat.{ℕ, ◌+◌, ◌-◌, ◌<◌, ◌≤◌}
use mathlib.Core.Path.{◌≡◌, refl, sym, ap, subst, ◌∙◌}
use mathlib.Core.Bool.{Bool, false}
use mathlib.Core.List.{List}
use lib.ListN.{length, get_or, take, drop}
use lib.Ieee.{Float}
use Rattle.break_schedule.specs.floats.Binary64.{◌⊕◌}
use Rattle.break_schedule.specs.laws.All.{All, all_take}
use Rattle.break_schedule.specs.laws.Edits.{insert_at, all_insert_at}
use Rattle.break_schedule.specs.laws.Walks.{Walking, walking_start, walking_on, walking_stuck, walking_end, walk_insert, walk_rule}
use Rattle.break_schedule.specs.models.declared.vehicle.VehicleBreak.{VehicleBreak}
use Rattle.break_schedule.specs.models.declared.limits.RouteLimits.{RouteLimits}
use Rattle.break_schedule.specs.models.Customer.{Customers, customer_at}
use Rattle.break_schedule.specs.models.Problem.{DistanceMatrix, Fit, Stops}
use Rattle.break_schedule.specs.distance.Matrix.{get, travel_time}
use Rattle.evaluation.specs.declared.check.Way.{Way}
use Rattle.break_schedule.specs.break_clock.declared.schedule.Riding.{Riding}
use Rattle.break_schedule.specs.break_clock.declared.route_eval.RouteEval.{RouteEval}
use Rattle.break_schedule.specs.break_clock.Schedule.{schedule, ride_all, ride_home, set_out as ride-out}
use Rattle.evaluation.specs.Eval.{is_feasible, limited}
use Rattle.evaluation.specs.Check.{departure, set_out, reached, reach, onward, reach_all, home_allowed, homeward, feasible_with, route_feasible}
use Rattle.break_schedule.specs.BreakClockStopLaws.{stops_all, tail_part}
use Rattle.break_schedule.specs.BreakClockScheduleLaws.{schedule_stuck, schedule_home}

-- ---- one stop

-- a way stands at the stop that it has just served
reached_at : (d : Float) (c : ℕ) (s : Option Float) (v : Way) → reached d c s ≡ Some v → v.prev ≡ c
reached_at d c None v e = cc
reached_at d c (Some t) v e = cc

pub reach_goes : (cs : Customers) (m : DistanceMatrix) (w : Way) (c : ℕ) (v : Way) → reach cs m w c ≡ Some v → v.prev ≡ c
unfolding reach
reach_goes cs m w c v e =
    reached_at (w.distance ⊕ get m w.prev c) c (departure (w.time ⊕ travel_time m w.prev c) (customer_at cs c)) v e

-- ---- the walk over some stops

pub record Reaching (cs : Customers) (m : DistanceMatrix) (stops : List ℕ) (first w : Way) (i : ℕ) : Type 0 where
  pub fit : Fit cs m
  pub places : Stops m.size stops
  pub there : w.prev < m.size
  pub walking : Walking Some onward (reach cs m) stops first w i

module _ (cs : Customers) (m : DistanceMatrix) (stops : List ℕ) (first : Way) where
  pub reaching_start : Fit cs m → Stops m.size stops → first.prev < m.size → Reaching cs m stops first first 0
  reaching_start f s h = record { fit = f; places = s; there = h; walking = walking_start Some onward (reach cs m) stops first }

  pub reaching_on : (w v : Way) (i : ℕ) (x : Option Way) → Reaching cs m stops first w i → i < length stops
      → x ≡ reach cs m w (get_or stops i 0) → x ≡ Some v → Reaching cs m stops first v (i + 1)
  reaching_on w v i x a h ex e =
      record {
        fit = a.fit;
        places = a.places;
        there = rw (reach_goes cs m w (get_or stops i 0) v (sym ex ∙ e)) (a.places.each i h);
        walking = walking_on Some onward (reach cs m) stops first w v i x (λ f. refl) a.walking h ex e;
      }

  pub reaching_late : (w : Way) (i : ℕ) (x : Option Way) → Reaching cs m stops first w i → i < length stops
      → x ≡ reach cs m w (get_or stops i 0) → x ≡ None → None ≡ reach_all cs m stops first
  reaching_late w i x a h ex e = walking_stuck Some onward (reach cs m) stops first w i x None (λ f. refl) a.walking h ex e

  pub reaching_end : (w : Way) (i : ℕ) → Reaching cs m stops first w i → length stops ≤ i → Some w ≡ reach_all cs m stops first
  reaching_end w i a h = walking_end Some onward (reach cs m) stops first w i a.walking h

pub ruleset reaching_laws = (reaching_start, reaching_on, reaching_late, reaching_end)

-- where a walk starts and ends: at a place
pub out_there : (w : Way) (depot n : ℕ) → w ≡ set_out depot → depot < n → w.prev < n
out_there w depot n e h = rw e h

abbrev Place : ℕ → Option Way → Type 0
Place n None = Unit
Place n (Some w) = w.prev < n

reached_cases : (P : Option Way → Type 0) → P None → ((w : Way) → P (Some w)) → (x : Option Way) → P x
reached_cases P a f None = a
reached_cases P a f (Some w) = f w

reach_place : (cs : Customers) (m : DistanceMatrix) (w : Way) (c : ℕ) → c < m.size → Place m.size (reach cs m w c)
reach_place cs m w c h = go (reach cs m w c) (λ v e. reach_goes cs m w c v e)
  where
    go : (x : Option Way) → ((v : Way) → x ≡ Some v → v.prev ≡ c) → Place m.size x
    go None f = tt
    go (Some v) f = rw (f v refl) h

module _ (cs : Customers) (m : DistanceMatrix) where
  all_there : (stops : List ℕ) (first w : Way) (x : Option Way) → All (λ c. c < m.size) stops → first.prev < m.size
      → x ≡ reach_all cs m stops first → x ≡ Some w → w.prev < m.size
  all_there stops first w x a h ex e =
      subst (Place m.size) (sym ex ∙ e)
      (walk_rule Some onward (reach cs m) None (λ s f. refl) (λ f. refl) reached_cases (Place m.size) (λ c. c < m.size) tt
      (λ w c h _. reach_place cs m w c h) stops first a h)

  -- the whole route, its front part, the route with a stop put in
  module _ (route : List ℕ) (w : Way) (x : Option Way) (s : Stops m.size route) where
    pub reach_all_there : (first : Way) → first.prev < m.size → x ≡ reach_all cs m route first → x ≡ Some w → w.prev < m.size
    reach_all_there first h ex e = all_there route first w x (stops_all m.size route s) h ex e

    pub front_there : (pos depot : ℕ) → depot < m.size → x ≡ reach_all cs m (take pos route) (set_out depot) → x ≡ Some w → w.prev < m.size
    front_there pos depot h ex e = all_there (take pos route) (set_out depot) w x (all_take pos (stops_all m.size route s)) h ex e

    pub trial_there : (pos c depot : ℕ) → c < m.size → depot < m.size → x ≡ reach_all cs m (insert_at pos c route) (set_out depot) → x ≡ Some w
        → w.prev < m.size
    trial_there pos c depot g h ex e = all_there (insert_at pos c route) (set_out depot) w x (all_insert_at pos c g (stops_all m.size route s)) h ex e

pub reach_there : (cs : Customers) (m : DistanceMatrix) (w v : Way) (c n : ℕ) (x : Option Way) → c < n → x ≡ reach cs m w c → x ≡ Some v → v.prev < n
reach_there cs m w v c n x h ex e = rw (reach_goes cs m w c v (sym ex ∙ e)) h

pub ruleset reach_ends = (out_there, reach_there, reach_all_there)

-- ---- a walk over a part of a route, and over a route with a stop put in

pub front_is : (cs : Customers) (m : DistanceMatrix) (route : List ℕ) (pos depot : ℕ) (first : Way) (x : Option Way)
    → first ≡ set_out depot → x ≡ reach_all cs m (take pos route) first → x ≡ reach_all cs m (take pos route) (set_out depot)
front_is cs m route pos depot first x e ex = ex ∙ ap (reach_all cs m (take pos route)) e

pub tail_is : (cs : Customers) (m : DistanceMatrix) (route : List ℕ) (pos : ℕ) (w : Way) (x : Option Way)
    → x ≡ reach_all cs m (take (length route - pos) (drop pos route)) w → x ≡ reach_all cs m (drop pos route) w
tail_is cs m route pos w x ex = ex ∙ ap (λ (l : List ℕ). reach_all cs m l w) (tail_part pos route)

module _ (cs : Customers) (m : DistanceMatrix) (route : List ℕ) (pos c : ℕ) (first : Way) where
  parts : reach_all cs m (insert_at pos c route) first
      ≡ onward (reach_all cs m (take pos route) first) (λ t. onward (reach cs m t c) (λ u. reach_all cs m (drop pos route) u))
  parts = walk_insert Some onward (reach cs m) None (λ s f. refl) (λ f. refl) reached_cases pos c route first

  pub trial_front : (x : Option Way) → x ≡ reach_all cs m (take pos route) first → x ≡ None → None ≡ reach_all cs m (insert_at pos c route) first
  trial_front x ex e = sym (parts ∙ rw (← ex, e))

  pub trial_stop : (w : Way) (x y : Option Way) → x ≡ reach_all cs m (take pos route) first → x ≡ Some w → y ≡ reach cs m w c → y ≡ None
      → None ≡ reach_all cs m (insert_at pos c route) first
  trial_stop w x y ex e ey f = sym (parts ∙ rw (← ex, e, ← ey, f))

  pub trial_tail : (w v : Way) (x y z : Option Way) → x ≡ reach_all cs m (take pos route) first → x ≡ Some w → y ≡ reach cs m w c → y ≡ Some v
      → z ≡ reach_all cs m (drop pos route) v → z ≡ reach_all cs m (insert_at pos c route) first
  trial_tail w v x y z ex e ey f ez = ez ∙ sym (parts ∙ rw (← ex, e, ← ey, f))

pub ruleset trial_laws = (trial_front, trial_stop, trial_tail)

-- ---- the whole route

module _ (cs : Customers) (m : DistanceMatrix) (depot : ℕ) (l : RouteLimits) (route : List ℕ) where
  pub feasible_late : (first : Way) (x : Option Way) → l.rest ≡ None → first ≡ set_out depot → x ≡ reach_all cs m route first → x ≡ None
      → false ≡ route_feasible cs m depot l route
  unfolding route_feasible
  feasible_late first x h ef ex e =
      sym (ap (feasible_with cs m depot l route) h ∙ ap (homeward m depot l) (ap (reach_all cs m route) (sym ef) ∙ sym ex ∙ e))

  pub feasible_home : (first w : Way) (x : Option Way) (v : Bool) → l.rest ≡ None → first ≡ set_out depot → x ≡ reach_all cs m route first → x ≡ Some w
      → v ≡ home_allowed m depot l w → v ≡ route_feasible cs m depot l route
  unfolding route_feasible
  feasible_home first w x v h ef ex e ev =
      ev ∙ sym (ap (feasible_with cs m depot l route) h ∙ ap (homeward m depot l) (ap (reach_all cs m route) (sym ef) ∙ sym ex ∙ e))

  pub feasible_rested : (r : VehicleBreak) (s e : Option RouteEval) (v : Bool) → l.rest ≡ Some r → s ≡ schedule cs m depot r route → e ≡ limited l s
      → v ≡ is_feasible e → v ≡ route_feasible cs m depot l route
  unfolding route_feasible
  feasible_rested r s e v h es ee ev = ev ∙ ap is_feasible (ee ∙ ap (limited l) es) ∙ sym (ap (feasible_with cs m depot l route) h)

  -- the same of a ride, as `trial_feasible` drives it
  pub feasible_stuck : (r : VehicleBreak) (x : Option Riding) → l.rest ≡ Some r → x ≡ ride_all cs m r route (ride-out depot) → x ≡ None
      → false ≡ route_feasible cs m depot l route
  feasible_stuck r x h ex e = feasible_rested r None None false h (schedule_stuck cs m depot r route (ride-out depot) x refl ex e) refl refl

  pub feasible_ridden : (r : VehicleBreak) (q : Riding) (x : Option Riding) (s e : Option RouteEval) (v : Bool) → l.rest ≡ Some r
      → x ≡ ride_all cs m r route (ride-out depot) → x ≡ Some q → s ≡ ride_home m r depot q → e ≡ limited l s → v ≡ is_feasible e
      → v ≡ route_feasible cs m depot l route
  feasible_ridden r q x s e v h ex f es ee ev =
      feasible_rested r s e v h (schedule_home cs m depot r route (ride-out depot) q x s refl ex f es) ee ev

  pub feasible_walked : (w : Way) (x : Option Way) (v : Bool) → l.rest ≡ None → x ≡ reach_all cs m route (set_out depot) → x ≡ Some w
      → v ≡ home_allowed m depot l w → v ≡ route_feasible cs m depot l route
  feasible_walked w x v h ex e ev = feasible_home (set_out depot) w x v h refl ex e ev

  pub feasible_missed : (x : Option Way) → l.rest ≡ None → x ≡ reach_all cs m route (set_out depot) → x ≡ None → false ≡ route_feasible cs m depot l route
  feasible_missed x h ex e = feasible_late (set_out depot) x h refl ex e

pub ruleset feasible_laws = (feasible_late, feasible_home, feasible_rested)

pub ruleset trial_feasible_laws = (feasible_missed, feasible_walked, feasible_stuck, feasible_ridden)
