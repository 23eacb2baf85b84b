-- Laws of specs/Quick on the test of one position, each from the facts that the code has where it needs it. Assumes nothing.
use Rattle.std.specs.Prelude.{Option, Some, None}
use Prim.Native.Nat.{ℕ, ◌-◌, ◌≤◌}
use native.Mathlib.Omega.{arith}
use mathlib.Core.Path.{◌≡◌, refl, sym, ap, ◌∙◌}
use mathlib.Core.Bool.{Bool, true, false, cond}
use mathlib.Core.List.{List}
use lib.ListN.{length, get_or, take}
use lib.Dec.{eqb, ltb}
use lib.Seq.{get_or-take}
use lib.Ieee.{Float, nan}
use borrow.Author.Tests.{ltb-true, eqb-false}
use Rattle.quick_test.specs.floats.Binary64.{◌⊕◌, 0f}
use Rattle.quick_test.specs.models.Customer.{Customers}
use Rattle.quick_test.specs.models.Problem.{DistanceMatrix}
use Rattle.quick_test.specs.distance.Matrix.{travel_time}
use Rattle.quick_test.specs.route_cost.Route.{prev_stop}
use Rattle.quick_test.specs.Quick.{in_time, reaches_next, left_before, may_fit}
use Rattle.quick_test.specs.Parts.{leave, next_in_time}

-- ---- the whole test, on the first cells of the two

same_departure : (t : Bool) (n : ℕ) (departures : List Float) (pos : ℕ) → pos ≤ n → eqb pos 0 ≡ t
    → cond t 0f (get_or (take n departures) (pos - 1) nan) ≡ cond t 0f (get_or departures (pos - 1) nan)
same_departure true n departures pos h e = refl
same_departure false n departures pos h e = let g : pos ≡ 0 → ⊥ = eqb-false pos 0 e in get_or-take n departures (pos - 1) nan (omega arith)

same_bound : (t : Bool) (n : ℕ) (latest : List Float) (pos : ℕ) (arrival : Float) → ltb pos n ≡ t
    → cond t (in_time arrival (get_or latest pos nan)) true ≡ cond t (in_time arrival (get_or (take n latest) pos nan)) true
same_bound true n latest pos arrival e = ap (in_time arrival) (sym (get_or-take n latest pos nan (ltb-true pos n e)))
same_bound false n latest pos arrival e = refl

module _ (cs : Customers) (m : DistanceMatrix) (depot : ℕ) (route : List ℕ) (departures latest : List Float) (pos c : ℕ) where
  by_parts : (before : Float) (prev : ℕ) (s : Option Float) → pos ≤ length route → before ≡ left_before departures pos → prev ≡ prev_stop depot route pos
      → s ≡ leave cs m before prev c
      → may_fit cs m depot route (take (length route) departures) (take (length route) latest) pos c
      ≡ reaches_next m route (take (length route) latest) pos c s
  unfolding may_fit leave
  by_parts before prev s h eb ep es = rw (same_departure (eqb pos 0) (length route) departures pos h refl, ← eb, ← ep, ← es)

  pub fit_missed : (before : Float) (prev : ℕ) (s : Option Float) → pos ≤ length route → before ≡ left_before departures pos → prev ≡ prev_stop depot route pos
      → s ≡ leave cs m before prev c → s ≡ None
      → false ≡ may_fit cs m depot route (take (length route) departures) (take (length route) latest) pos c
  fit_missed before prev s h eb ep es e =
      sym (by_parts before prev s h eb ep es ∙ ap (reaches_next m route (take (length route) latest) pos c) e)

  pub fit_left : (before : Float) (prev : ℕ) (s : Option Float) (left : Float) (v : Bool) → pos ≤ length route → before ≡ left_before departures pos
      → prev ≡ prev_stop depot route pos → s ≡ leave cs m before prev c → s ≡ Some left → v ≡ next_in_time m route latest pos c left
      → v ≡ may_fit cs m depot route (take (length route) departures) (take (length route) latest) pos c
  unfolding next_in_time
  fit_left before prev s left v h eb ep es e ev =
      ev ∙ same_bound (ltb pos (length route)) (length route) latest pos (left ⊕ travel_time m c (get_or route pos 0)) refl
      ∙ sym (by_parts before prev s h eb ep es ∙ ap (reaches_next m route (take (length route) latest) pos c) e)

pub ruleset fit_laws = (fit_missed, fit_left)
