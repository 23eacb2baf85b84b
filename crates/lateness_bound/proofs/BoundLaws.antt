-- Laws of specs/Bound, each from the facts that the code has where it needs it. Assumes nothing.
use Prim.Native.Nat.{ℕ, zero, suc, ◌+◌, ◌*◌, ◌≤◌}
use native.Mathlib.Nat.{suc-mul, zero-mul}
use native.Mathlib.Omega.{arith}
use mathlib.Core.Path.{◌≡◌, refl, sym, ap, ◌∙◌}
use mathlib.Core.List.{List, [], ◌∷◌, ◌++◌}
use lib.ListN.{length, get_or, take}
use lib.Seq.{take-suc, take-length}
use lib.Ieee.{Float, nan}
use Rattle.std.specs.List.{fold, range_with_len}
use Rattle.std.specs.Iterator.{ActsAsOnTwo, FoldsItems}
use Rattle.std.proofs.iter.Yields.{nat_range_steps}
use Rattle.std.proofs.lemmas.Fn.{fold_over}
use Rattle.std.proofs.lemmas.Iterator.{YieldsList-from_range}
use Rattle.std.proofs.lemmas.List.Sums.{fold_push}
use denote.Param.Members.{Mut}
use borrow.Author.Tests.{eq-eqb, ne_eqb}
use Rattle.route_worth.specs.floats.Binary64.{0f, max}
use Rattle.route_worth.specs.laws.Loops.{loop, foldl}
use Rattle.route_worth.specs.models.Problem.{DistanceMatrix, Square}
use Rattle.route_worth.specs.distance.Matrix.{largest}
use Rattle.lateness_bound.specs.Bound.{slowest}

-- ---- the walks over the places: a fold over the numbers below n is the counted loop

numbers_push : (a n j : ℕ) → a + n ≡ j → range_with_len a (suc n) ≡ range_with_len a n ++ (j ∷ [])
numbers_push a zero j e = ap (λ (i : ℕ). i ∷ []) (omega (arith, e))
numbers_push a (suc n) j e = ap (λ (xs : List ℕ). a ∷ xs) (numbers_push (a + 1) n j (omega (arith, e)))

module _ (f : ℕ → Float → Float) where
  abbrev turn : Float → ℕ → Float
  turn most c = f c most

  counted : (n : ℕ) → fold turn 0f (range_with_len 0 n) ≡ loop n f 0f
  unfolding loop
  counted zero = refl
  counted (suc n) = ap (fold turn 0f) (numbers_push 0 n n (omega arith)) ∙ fold_push turn 0f (range_with_len 0 n) n ∙ ap (f n) (counted n)

  -- a closure that does at each number what f does, folded over the numbers below n
  module _ {F : Type 0} {g : Mut F (Float × (ℕ × Unit {0})) Float} {call : F} where
    pub walked : {m n : ℕ} {r : Float} → m ≡ n → ActsAsOnTwo g call turn
        → FoldsItems nat_range_steps g (record { start = 0; end = m }) call 0f r → r ≡ loop n f 0f
    walked {m} {n} {r} e acts ran =
        fold_over nat_range_steps (λ c. c) g (λ xs most. most ≡ fold turn 0f xs) call
        (λ xs a c b call' j k. let one = acts a c b call' k in (one.1 ∙ ap (f c) j ∙ sym (fold_push turn 0f xs c), one.0))
        (record { start = 0; end = m }) (range_with_len 0 m) 0f r (YieldsList-from_range 0 m m refl (omega arith)).runs refl ran
        ∙ counted m
        ∙ ap (λ (k : ℕ). loop k f 0f) e

-- ---- the slowest travel: rows of n cells, one after the other, are the cells in their order, so the two loops are one fold

fold_snoc : (xs : List Float) (x s : Float) → foldl max s (xs ++ (x ∷ [])) ≡ max (foldl max s xs) x
unfolding foldl
fold_snoc [] x s = refl
fold_snoc (y ∷ ys) x s = fold_snoc ys x (max s y)

module _ (l : List Float) where
  -- k cells from b on, after the first b
  row : (b k : ℕ) → b + k ≤ length l → loop k (λ j s. max s (get_or l (b + j) nan)) (foldl max 0f (take b l)) ≡ foldl max 0f (take (b + k) l)
  unfolding loop
  row b zero h = let e : b ≡ b + 0 = omega arith in ap (λ (i : ℕ). foldl max 0f (take i l)) e
  row b (suc k) h =
      let e : b + suc k ≡ suc (b + k) = omega arith in
      ap (λ (s : Float). max s (get_or l (b + k) nan)) (row b k (omega arith))
      ∙ sym (fold_snoc (take (b + k) l) (get_or l (b + k) nan) 0f)
      ∙ ap (foldl max 0f) (sym (take-suc l (b + k) nan (omega arith)))
      ∙ ap (λ (i : ℕ). foldl max 0f (take i l)) (sym e)

  rows : (n k : ℕ) → k * n ≤ length l → loop k (λ i s. loop n (λ j t. max t (get_or l (i * n + j) nan)) s) 0f ≡ foldl max 0f (take (k * n) l)
  unfolding loop foldl
  rows n zero h = let e : 0 * n ≡ 0 = zero-mul n in rw e
  rows n (suc k) h =
      let e : suc k * n ≡ k * n + n = suc-mul k n in
      ap (λ (s : Float). loop n (λ j t. max t (get_or l (k * n + j) nan)) s) (rows n k (omega arith))
      ∙ row (k * n) n (omega arith)
      ∙ ap (λ (i : ℕ). foldl max 0f (take i l)) (sym e)

  cells : (n : ℕ) → length l ≡ n * n → loop n (λ i s. loop n (λ j t. max t (get_or l (i * n + j) nan)) s) 0f ≡ largest l
  unfolding largest
  cells n e = rows n n (omega arith) ∙ ap (foldl max 0f) (ap (λ (i : ℕ). take i l) (sym e) ∙ take-length l)

module _ (m : DistanceMatrix) (v : Float) where
  pub slowest_by_distance : Square m → length m.times ≡ 0 → v ≡ largest m.distances → v ≡ slowest m
  unfolding slowest
  slowest_by_distance s h ev = ev ∙ sym (rw (eq-eqb (length m.times) 0 h) (cells m.distances m.size s.distance_cells))

  pub slowest_by_time : Square m → (length m.times ≡ 0 → ⊥) → v ≡ largest m.times → v ≡ slowest m
  unfolding slowest
  slowest_by_time s h ev =
      ev ∙ sym (rw (ne_eqb (length m.times) 0 h) (cells m.times m.size (s.time_cells h)))

pub ruleset slowest_laws = (slowest_by_distance, slowest_by_time)
