-- How often a number occurs in a list: what a list has, whatever its order. Assumes nothing.
use Prim.Native.Nat.{ℕ, zero, suc, ◌+◌, ◌<◌, zero-le, suc-le-suc}
use Rattle.std.specs.Prelude.{◌≡◌, Bool, true, false, length, take, get_or, set, eqb}
use Rattle.std.proofs.Math.Path.{refl, sym}
use Rattle.std.proofs.Common.{ap, ◌∙◌, le_of_suc-le-suc, not-suc-le-zero, zero-add, eq-eqb, eqb-true, take-append-drop}
use mathlib.Core.List.{List, [], ◌∷◌, ◌++◌, reverse, reverse_aux}
use native.Mathlib.Omega.{arith}
use Rattle.std.proofs.Math.ListN.{drop}
use Rattle.laws.specs.Edits.{insert_at, erase, length_erase}

unfoldable pub one_if : Bool → ℕ
one_if true = 1
one_if false = 0

unfoldable pub count : ℕ → List ℕ → ℕ
count x [] = 0
count x (y ∷ ys) = one_if (eqb x y) + count x ys

module _ (x : ℕ) where
  pub count_append : (xs ys : List ℕ) → count x (xs ++ ys) ≡ count x xs + count x ys
  unfolding count
  count_append [] ys = sym (zero-add (count x ys))
  count_append (y ∷ xs) ys = omega (arith, count_append xs ys)

  pub count_parts : (i : ℕ) (xs : List ℕ) → count x (take i xs) + count x (drop i xs) ≡ count x xs
  count_parts i xs = sym (count_append (take i xs) (drop i xs)) ∙ ap (count x) (take-append-drop i xs)

  pub count_insert_at : (i c : ℕ) (xs : List ℕ) → count x (insert_at i c xs) ≡ count x (c ∷ xs)
  unfolding insert_at count
  count_insert_at i c xs = omega (arith, count_append (take i xs) (c ∷ drop i xs), count_parts i xs)

  pub count_erase : (i : ℕ) (xs : List ℕ) → i < length xs → count x (get_or xs i 0 ∷ erase i xs) ≡ count x xs
  unfolding erase count
  count_erase i [] h = absurd (not-suc-le-zero h)
  count_erase zero (y ∷ xs) h = refl
  count_erase (suc i) (y ∷ xs) h = omega (arith, count_erase i xs (le_of_suc-le-suc h))

  pub count_set : (xs : List ℕ) (i c : ℕ) → i < length xs → count x (set xs i c) + count x (get_or xs i 0 ∷ []) ≡ count x xs + count x (c ∷ [])
  unfolding count
  count_set [] i c h = absurd (not-suc-le-zero h)
  count_set (y ∷ xs) zero c h = omega arith
  count_set (y ∷ xs) (suc i) c h = omega (arith, count_set xs i c (le_of_suc-le-suc h))

  count_reverse_aux : (xs ys : List ℕ) → count x (reverse_aux xs ys) ≡ count x xs + count x ys
  unfolding count
  count_reverse_aux [] ys = sym (zero-add (count x ys))
  count_reverse_aux (y ∷ xs) ys = omega (arith, count_reverse_aux xs (y ∷ ys))

  pub count_reverse : (xs : List ℕ) → count x (reverse xs) ≡ count x xs
  unfolding count
  count_reverse xs = omega (arith, count_reverse_aux xs [])

-- ---- two lists that have the same, in some order, are equally long

-- where a number that occurs stands
pub record Place (x : ℕ) (xs : List ℕ) : Type 0 where
  pub at : ℕ
  pub inside : at < length xs
  pub is : get_or xs at 0 ≡ x

place : (x : ℕ) (xs : List ℕ) → 0 < count x xs → Place x xs
unfolding count one_if
place x [] h = absurd (not-suc-le-zero h)
place x (y ∷ ys) h = go (eqb x y) refl h (λ k. place x ys k)
  where
    go : (t : Bool) → eqb x y ≡ t → 0 < one_if t + count x ys → (0 < count x ys → Place x ys) → Place x (y ∷ ys)
    go true e k on = record { at = 0; inside = suc-le-suc zero-le; is = sym (eqb-true x y e) }
    go false e k on = let q = on (omega arith) in record { at = suc q.at; inside = suc-le-suc q.inside; is = q.is }

pub same_length : (xs ys : List ℕ) → ((c : ℕ) → count c xs ≡ count c ys) → length xs ≡ length ys
unfolding count one_if
same_length [] [] h = refl
same_length [] (y ∷ ys) h =
    let one : one_if (eqb y y) ≡ 1 = ap one_if (eq-eqb y y refl) in
    absurd (omega (arith, h y, one))
same_length (x ∷ xs) ys h =
    let one : one_if (eqb x x) ≡ 1 = ap one_if (eq-eqb x x refl) in
    let q = place x ys (omega (arith, h x, one)) in
    ap suc (same_length xs (erase q.at ys) (λ c. omega (arith, h c, count_erase c q.at ys q.inside, ap (λ (z : ℕ). one_if (eqb c z)) q.is)))
    ∙ length_erase q.at ys q.inside
