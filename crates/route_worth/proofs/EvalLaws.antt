-- Laws of the definitions of `evaluation` (specs/Eval), each from the facts that the code has where it needs it. Assumes nothing.
use Rattle.std.specs.Prelude.{Option, Some, None}
use Prim.Native.Nat.{ℕ, ◌<◌}
use mathlib.Core.Path.{◌≡◌, refl, sym, subst, ◌∙◌}
use mathlib.Core.List.{List}
use Rattle.route_drive.specs.laws.Walks.{walk_rule}
use Rattle.route_drive.specs.models.Customer.{Customers}
use Rattle.route_drive.specs.models.Problem.{DistanceMatrix, Stops}
use Rattle.route_drive.specs.evaluation.declared.eval.Walk.{Walk}
use Rattle.route_drive.specs.evaluation.Eval.{set_out, drive, onward, drive_all}
use Rattle.route_drive.specs.BreakClockStopLaws.{stops_all}
use Rattle.route_drive.proofs.DriveLaws.{drive_goes}

-- ---- the ends of the walk

-- where a walk starts and ends: at a place
pub out_there : (w : Walk) (depot n : ℕ) → w ≡ set_out depot → depot < n → w.prev < n
out_there w depot n e h = rw e h

abbrev Place : ℕ → Option Walk → Type 0
Place n None = Unit
Place n (Some w) = w.prev < n

pub walked_cases : (P : Option Walk → Type 0) → P None → ((w : Walk) → P (Some w)) → (x : Option Walk) → P x
walked_cases P a f None = a
walked_cases P a f (Some w) = f w

drive_place : (cs : Customers) (m : DistanceMatrix) (w : Walk) (c : ℕ) → c < m.size → Place m.size (drive cs m w c)
drive_place cs m w c h = go (drive cs m w c) (λ v e. drive_goes cs m w c v e)
  where
    go : (x : Option Walk) → ((v : Walk) → x ≡ Some v → v.prev ≡ c) → Place m.size x
    go None f = tt
    go (Some v) f = rw (f v refl) h

pub drive_all_there : (cs : Customers) (m : DistanceMatrix) (route : List ℕ) (first w : Walk) (x : Option Walk)
    → Stops m.size route → first.prev < m.size → x ≡ drive_all cs m route first → x ≡ Some w → w.prev < m.size
drive_all_there cs m route first w x s h ex e =
    subst (Place m.size) (sym ex ∙ e)
    (walk_rule Some onward (drive cs m) None (λ s f. refl) (λ f. refl) walked_cases (Place m.size) (λ c. c < m.size) tt
    (λ w c h _. drive_place cs m w c h) route first (stops_all m.size route s) h)

pub ruleset drive_ends = (out_there, drive_all_there)
