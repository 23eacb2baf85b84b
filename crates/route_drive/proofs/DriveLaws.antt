-- Laws of the walk of an evaluation (evaluation, specs/Eval), each from the facts that the code has where it needs it. Assumes nothing.
use Rattle.std.specs.Prelude.{Option, Some, None}
use Prim.Native.Nat.{ℕ, ◌+◌, ◌<◌, ◌≤◌}
use mathlib.Core.Path.{◌≡◌, refl, sym, ◌∙◌}
use mathlib.Core.List.{List}
use lib.ListN.{length, get_or}
use lib.Ieee.{Float}
use Rattle.trial_route.specs.floats.Binary64.{◌⊕◌}
use Rattle.trial_route.specs.laws.Walks.{Walking, walking_start, walking_on, walking_stuck, walking_end}
use Rattle.trial_route.specs.models.Customer.{Customers, customer_at}
use Rattle.trial_route.specs.models.Problem.{DistanceMatrix, Fit, Stops}
use Rattle.trial_route.specs.distance.Matrix.{get, travel_time}
use Rattle.trial_route.specs.evaluation.declared.eval.Walk.{Walk}
use Rattle.trial_route.specs.labels.declared.Label.{Label}
use Rattle.trial_route.specs.labels.Labels.{serve_at}
use Rattle.trial_route.specs.evaluation.Eval.{walked, drive, onward, drive_all}

-- ---- one stop

-- a walk stands at the stop that it has just served
walked_at : (d : Float) (c : ℕ) (s : Option Label) (v : Walk) → walked d c s ≡ Some v → v.prev ≡ c
walked_at d c None v e = cc
walked_at d c (Some l) v e = cc

pub drive_goes : (cs : Customers) (m : DistanceMatrix) (w : Walk) (c : ℕ) (v : Walk) → drive cs m w c ≡ Some v → v.prev ≡ c
unfolding drive
drive_goes cs m w c v e =
    walked_at (w.distance ⊕ get m w.prev c) c (serve_at w.label (w.label.time ⊕ travel_time m w.prev c) None (customer_at cs c)) v e

-- ---- the walk over some stops

pub record Driving (cs : Customers) (m : DistanceMatrix) (stops : List ℕ) (first w : Walk) (i : ℕ) : Type 0 where
  pub fit : Fit cs m
  pub places : Stops m.size stops
  pub there : w.prev < m.size
  pub walking : Walking Some onward (drive cs m) stops first w i

module _ (cs : Customers) (m : DistanceMatrix) (stops : List ℕ) (first : Walk) where
  pub driving_start : Fit cs m → Stops m.size stops → first.prev < m.size → Driving cs m stops first first 0
  driving_start f s h = record { fit = f; places = s; there = h; walking = walking_start Some onward (drive cs m) stops first }

  pub driving_on : (w v : Walk) (i : ℕ) (x : Option Walk) → Driving cs m stops first w i → i < length stops
      → x ≡ drive cs m w (get_or stops i 0) → x ≡ Some v → Driving cs m stops first v (i + 1)
  driving_on w v i x a h ex e =
      record {
        fit = a.fit;
        places = a.places;
        there = rw (drive_goes cs m w (get_or stops i 0) v (sym ex ∙ e)) (a.places.each i h);
        walking = walking_on Some onward (drive cs m) stops first w v i x (λ f. refl) a.walking h ex e;
      }

  pub driving_late : (w : Walk) (i : ℕ) (x : Option Walk) → Driving cs m stops first w i → i < length stops
      → x ≡ drive cs m w (get_or stops i 0) → x ≡ None → None ≡ drive_all cs m stops first
  driving_late w i x a h ex e = walking_stuck Some onward (drive cs m) stops first w i x None (λ f. refl) a.walking h ex e

  pub driving_end : (w : Walk) (i : ℕ) → Driving cs m stops first w i → length stops ≤ i → Some w ≡ drive_all cs m stops first
  driving_end w i a h = walking_end Some onward (drive cs m) stops first w i a.walking h

pub ruleset driving_laws = (driving_start, driving_on, driving_late, driving_end)
