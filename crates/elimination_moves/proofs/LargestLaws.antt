-- Laws of specs/Largest, each from the facts that the code has where it needs it. Assumes nothing.
use Prim.Native.Nat.{ℕ, ◌+◌, ◌-◌, ◌≤◌, ◌<◌}
use native.Mathlib.Nat.{le_antisymm}
use native.Mathlib.Omega.{arith}
use mathlib.Core.Path.{◌≡◌, ◌∙◌}
use mathlib.Core.Bool.{Bool, true, false}
use mathlib.Core.List.{List, ◌++◌}
use lib.ListN.{length, get_or, take, drop}
use lib.Seq.{take_at}
use lib.IntN.{ℤ}
use borrow.Author.Rules.{rules}
use Rattle.reinsertion_candidates.specs.laws.Edits.{erase, cut, cut_one, length_cut}
use Rattle.reinsertion_candidates.specs.laws.Loops.{loop, loop_none, loop_more, loop_end, cond_rule}
use Rattle.reinsertion_candidates.specs.laws.Sorts.{least_inside}
use Rattle.reinsertion_candidates.specs.models.Problem.{Stops}
use Rattle.elimination_moves.specs.Largest.{larger, first_largest, larger_at, first_largest_is}

module _ (demand : List ℤ) (left : List ℕ) (i best : ℕ) (v : Bool) (e : v ≡ larger demand (get_or left i 0) (get_or left best 0)) where
  pub larger_new : v ≡ true → i ≡ larger_at demand left i best
  unfolding larger_at
  larger_new h = rw (← e, h)

  pub larger_old : v ≡ false → best ≡ larger_at demand left i best
  unfolding larger_at
  larger_old h = rw (← e, h)

pub ruleset larger_laws = (larger_new, larger_old)

-- ---- the loop: the first with the largest demand of the first i

pub record Picking (demand : List ℤ) (left : List ℕ) (best i : ℕ) : Type 0 where
  pub stops : Stops (length demand) left
  pub within : i ≤ length left
  pub inside : best < length left
  pub same : best ≡ loop i (larger_at demand left) 0

module _ (demand : List ℤ) (left : List ℕ) where
  pub picking_start : Stops (length demand) left → 0 < length left → Picking demand left 0 0
  picking_start s h = record { stops = s; within = omega arith; inside = h; same = loop_none (larger_at demand left) 0 }

  module _ (best i : ℕ) (g : Picking demand left best i) where
    pub picking_more : (next : ℕ) → i < length left → next ≡ larger_at demand left i best → Picking demand left next (i + 1)
    unfolding larger_at
    picking_more next h e =
        record {
          stops = g.stops;
          within = omega arith;
          inside = rw e (cond_rule (λ (k : ℕ). k < length left) (larger demand (get_or left i 0) (get_or left best 0)) (λ _. h) (λ _. g.inside));
          same = loop_more (larger_at demand left) 0 i best next g.same e;
        }

    pub picking_end : length left ≤ i → best ≡ first_largest demand left
    picking_end h = loop_end (larger_at demand left) 0 i (length left) best g.same (le_antisymm g.within h) ∙ first_largest_is demand left

pub ruleset picking_laws = (rules, picking_start, picking_more, picking_end)

-- ---- the stop that is taken out

module _ (demand : List ℤ) (left : List ℕ) (h : 0 < length left) (i : ℕ) (e : i ≡ first_largest demand left) where
  pub taken_inside : i < length left
  taken_inside = rw e (least_inside (larger demand) 0 left h)

  pub taken_end : i + 1 ≤ length left
  taken_end = omega (arith, taken_inside)

  pub taken_rest : (after : List ℕ) → after ≡ cut i 1 left ++ drop (length left - 1) left
      → take (length left - 1) after ≡ erase (first_largest demand left) left
  taken_rest after f =
      let l : length (cut i 1 left) ≡ length left - 1 = omega (arith, length_cut i 1 left taken_end) in
      rw (f, ← e) (take_at (cut i 1 left) (drop (length left - 1) left) (length left - 1) l ∙ cut_one i left)

pub ruleset taken_laws = (rules, taken_inside, taken_end, taken_rest)
