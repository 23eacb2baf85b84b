-- A plan kept in the first work cells is still there after the cells from m on were lent and written. Assumes nothing.
use Rattle.std.specs.Prelude.{◌≡◌, ℕ, ◌+◌, ◌-◌, ◌≤◌, List, ◌++◌, length, take, drop, refl}
use Rattle.std.proofs.Common.{ap, ◌∙◌, append_assoc, arith, take_at, drop_at}
use Rattle.std.proofs.Math.Seq.{take-append-add}
use Rattle.plan.specs.Plan.{saved}

-- W are the work cells after `save`, and `lent` is what stands from m on by now.
module _ (ls s w W : List ℕ) (e : W ≡ saved ls s w) (m : ℕ) (h : length ls + length s ≤ m) (lent : List ℕ) where
  kept : take m W ++ lent ≡ ls ++ (s ++ (take (m - length ls - length s) (drop (length ls + length s) w) ++ lent))
  kept =
      let n : m ≡ length ls + (length s + (m - length ls - length s)) = omega arith in
      let free = drop (length ls + length s) w in
      let t : take m (ls ++ (s ++ free)) ≡ ls ++ (s ++ take (m - length ls - length s) free) =
      ap (λ (k : ℕ). take k (ls ++ (s ++ free))) n
      ∙ take-append-add ls (s ++ free) (length s + (m - length ls - length s))
      ∙ ap (λ (l : List ℕ). ls ++ l) (take-append-add s free (m - length ls - length s)) in
      rw (e, t) (simp append_assoc)

  pub saved_lengths : take (length ls) (take m W ++ lent) ≡ ls
  saved_lengths = ap (λ (l : List ℕ). take (length ls) l) kept ∙ take_at ls (s ++ (take (m - length ls - length s) (drop (length ls + length s) w) ++ lent)) (length ls) refl

  pub saved_stops : take (length s) (drop (length ls) (take m W ++ lent)) ≡ s
  saved_stops =
      let rest = take (m - length ls - length s) (drop (length ls + length s) w) ++ lent in
      ap (λ (l : List ℕ). take (length s) (drop (length ls) l)) kept
      ∙ ap (λ (l : List ℕ). take (length s) l) (drop_at ls (s ++ rest) (length ls) refl)
      ∙ take_at s rest (length s) refl
