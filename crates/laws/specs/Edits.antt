-- One element put into a list, and one or some taken out of it. Assumes nothing.
use Rattle.std.specs.Prelude.{◌≡◌, take, get_or}
use Rattle.std.proofs.Math.Path.{refl, ap}
use Rattle.std.proofs.Common.{◌∙◌, le_of_suc-le-suc, not-suc-le-zero, arith, add-one, length-append}
use mathlib.Core.List.{List, [], ◌∷◌, ◌++◌}
use Prim.Native.Nat.{ℕ, zero, suc, ◌+◌, ◌≤◌, ◌<◌}
use Rattle.std.proofs.Math.ListN.{length, drop, length-take, length-drop, get_or-append}
use Rattle.std.proofs.Math.Seq.{length-take-le, get_or_at, get_or-take}
use Rattle.laws.specs.All.{All, all_append, all_take, all_drop, all_cons}

-- xs with x put in before place i: `Vec::insert`
unfoldable pub insert_at : {A : Type 0} → ℕ → A → List A → List A
insert_at i x xs = take i xs ++ x ∷ drop i xs

-- xs without its element at place i: `Vec::remove`
unfoldable pub erase : {A : Type 0} → ℕ → List A → List A
erase i xs = take i xs ++ drop (suc i) xs

-- xs without its n elements from place i on: `Vec::drain(i..i + n)`
unfoldable pub cut : {A : Type 0} → ℕ → ℕ → List A → List A
cut i n xs = take i xs ++ drop (i + n) xs

module _ {A : Type 0} where
  pub length_insert_at : (i : ℕ) (x : A) (xs : List A) → i ≤ length xs → length (insert_at i x xs) ≡ length xs + 1
  unfolding insert_at
  length_insert_at i x xs h = simp (length-append, length-take, length-drop) (omega arith)

  pub length_erase : (i : ℕ) (xs : List A) → i < length xs → suc (length (erase i xs)) ≡ length xs
  unfolding erase
  length_erase i [] h = absurd (not-suc-le-zero h)
  length_erase zero (x ∷ xs) h = refl
  length_erase (suc i) (x ∷ xs) h = ap suc (length_erase i xs (le_of_suc-le-suc h))

  pub all_insert_at : {P : A → Type 0} (i : ℕ) (x : A) {xs : List A} → P x → All P xs → All P (insert_at i x xs)
  unfolding insert_at
  all_insert_at i x p a = all_append (all_take i a) (all_cons p (all_drop i a))

  pub all_erase : {P : A → Type 0} (i : ℕ) {xs : List A} → All P xs → All P (erase i xs)
  unfolding erase
  all_erase i a = all_append (all_take i a) (all_drop (suc i) a)

  -- one element cut out
  pub cut_one : (i : ℕ) (xs : List A) → cut i 1 xs ≡ erase i xs
  unfolding cut erase
  cut_one i xs = rw (add-one i)

  pub length_cut : (i n : ℕ) (xs : List A) → i + n ≤ length xs → length (cut i n xs) + n ≡ length xs
  unfolding cut
  length_cut i n xs h = simp (length-append, length-drop, length-take-le i xs (omega arith)) (omega arith)

  pub all_cut : {P : A → Type 0} (i n : ℕ) {xs : List A} → All P xs → All P (cut i n xs)
  unfolding cut
  all_cut i n a = all_append (all_take i a) (all_drop (i + n) a)

  -- what an element put in leaves where it is, and what it moves on
  pub get_insert_at : (i : ℕ) (x : A) (xs : List A) (d : A) → i ≤ length xs → get_or (insert_at i x xs) i d ≡ x
  unfolding insert_at
  get_insert_at i x xs d h = get_or_at (take i xs) x (drop i xs) d i (length-take-le i xs h)

  pub get_insert_at_before : (i : ℕ) (x : A) (xs : List A) (j : ℕ) (d : A) → i ≤ length xs → j < i → get_or (insert_at i x xs) j d ≡ get_or xs j d
  unfolding insert_at
  get_insert_at_before i x xs j d h k =
      let l : length (take i xs) ≡ i = length-take-le i xs h in
      get_or-append (take i xs) (x ∷ drop i xs) d j (omega arith) ∙ get_or-take i xs j d k

  -- what stays before an element that is taken out
  pub get_erase_before : (i : ℕ) (xs : List A) (j : ℕ) (d : A) → i ≤ length xs → j < i → get_or (erase i xs) j d ≡ get_or xs j d
  unfolding erase
  get_erase_before i xs j d h k =
      let l : length (take i xs) ≡ i = length-take-le i xs h in
      get_or-append (take i xs) (drop (suc i) xs) d j (omega arith) ∙ get_or-take i xs j d k
