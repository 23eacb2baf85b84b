-- Laws of the search over who leaves a route, each from the facts that the code has where it needs it. Assumes nothing.
use Prim.Native.Nat.{ℕ, ◌+◌, ◌-◌, ◌≤◌}
use native.Mathlib.Omega.{arith}
use native.Mathlib.Numerals.{add-one}
use mathlib.Core.Path.{◌≡◌}
use mathlib.Core.Bool.{Bool, true, false}
use mathlib.Core.List.{List}
use Rattle.std.proofs.Common.{Option}
use lib.ListN.{length}
use Rattle.ejection_positions.specs.laws.Loops.{loop, loop_none, loop_more}
use Rattle.ejection_positions.specs.models.Problem.{Problem}
use Rattle.ejection_positions.specs.ejection.declared.Ejection.{Ejection}
use Rattle.ejection_positions.specs.ejection.Eject.{kept, failure_sum, fails_more, try_left, try_out, try_two_from}

-- ---- who leaves

module _ (p : Problem) (c : ℕ) (failures : List ℕ) (k : ℕ) (r : List ℕ) (i j f : ℕ) (best : Option Ejection) (v : Bool)
    (ef : f ≡ failure_sum failures r i j) (ev : v ≡ fails_more f best) where
  pub out_more : v ≡ true → best ≡ try_out p c failures k r i j best
  unfolding try_out
  out_more e = rw (← ef, ← ev, e)

  pub out_tried : (x : Option Ejection) → v ≡ false → x ≡ try_left p c f k i j (kept i j r) best → x ≡ try_out p c failures k r i j best
  unfolding try_out
  out_tried x e t = rw (← ef, ← ev, e) t

-- ---- the loop over the second place, j: so far those between i and j were tried

module _ (p : Problem) (c : ℕ) (failures : List ℕ) (k : ℕ) (r : List ℕ) (i : ℕ) (first : Option Ejection) where
  abbrev pub tried : ℕ → Option Ejection
  tried j = loop (j - (i + 1)) (λ d. try_out p c failures k r i (i + 1 + d)) first

  pub two_none : (j : ℕ) → j ≤ i + 1 → first ≡ tried j
  two_none j h = let none : j - (i + 1) ≡ 0 = omega arith in rw none (loop_none _ _)

  module _ (j : ℕ) (found : Option Ejection) (e : found ≡ tried j) where
    pub two_more : (x : Option Ejection) → i + 1 ≤ j → x ≡ try_out p c failures k r i j found → x ≡ tried (j + 1)
    two_more x h t =
        let there : i + 1 + (j - (i + 1)) ≡ j = omega arith in
        let next : j + 1 - (i + 1) ≡ j - (i + 1) + 1 = omega arith in
        rw next (loop_more _ _ (j - (i + 1)) found x e (rw there t))

    pub two_end : j ≡ length r → found ≡ try_two_from p c failures k r i first
    unfolding try_two_from
    two_end h = rw (h, add-one i) at e
