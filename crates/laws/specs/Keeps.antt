-- The elements of a list that pass a test, in order: `Vec::retain`. Assumes nothing.
use Prim.Native.Nat.{suc, ◌≤◌}
use Rattle.std.specs.Prelude.{◌≡◌, Bool, cond, ◌&&◌}
use Rattle.std.proofs.Math.Path.{refl}
use Rattle.std.proofs.Common.{ap, sym, ◌∙◌, true≢false}
use Rattle.std.proofs.Math.Bool.{true, false}
use mathlib.Core.List.{List, [], ◌∷◌, ◌++◌, append_assoc, map}
use Rattle.std.proofs.Math.Nat.{le_refl}
use native.Mathlib.Omega.{arith}
use Rattle.std.proofs.Math.ListN.{length}
use Rattle.laws.specs.All.{All, all_nil, all_cons}

unfoldable pub keep : {A : Type 0} → (A → Bool) → List A → List A
keep f [] = []
keep f (x ∷ xs) = cond (f x) (x ∷ []) [] ++ keep f xs

module _ {A : Type 0} (f : A → Bool) where
  pub keep_yes : (x : A) (xs : List A) → f x ≡ true → keep f (x ∷ xs) ≡ x ∷ keep f xs
  unfolding keep
  keep_yes x xs e = rw e

  pub keep_no : (x : A) (xs : List A) → f x ≡ false → keep f (x ∷ xs) ≡ keep f xs
  unfolding keep
  keep_no x xs e = rw e

  pub keep_append : (xs ys : List A) → keep f (xs ++ ys) ≡ keep f xs ++ keep f ys
  unfolding keep
  keep_append [] ys = refl
  keep_append (x ∷ xs) ys = rw (keep_append xs ys, append_assoc (cond (f x) (x ∷ []) []) (keep f xs) (keep f ys))

  pub length_keep : (xs : List A) → length (keep f xs) ≤ length xs
  unfolding keep
  length_keep [] = le_refl 0
  length_keep (x ∷ xs) = go (f x) (length_keep xs)
    where
      go : (b : Bool) → length (keep f xs) ≤ length xs → length (cond b (x ∷ []) [] ++ keep f xs) ≤ suc (length xs)
      go true h = omega arith
      go false h = omega arith

  -- a property of all is one of those that are kept
  pub all_keep : {P : A → Type 0} {xs : List A} → All P xs → All P (keep f xs)
  unfolding keep
  all_keep all_nil = all_nil
  all_keep {P} (all_cons {x = x} {xs = xs} p a) = go (f x) (all_keep a)
    where
      go : (b : Bool) → All P (keep f xs) → All P (cond b (x ∷ []) [] ++ keep f xs)
      go true h = all_cons p h
      go false h = h

  -- each that is kept passes
  pub keep_passes : (xs : List A) → All (λ x. f x ≡ true) (keep f xs)
  unfolding keep
  keep_passes [] = all_nil
  keep_passes (x ∷ xs) = go (f x) refl (keep_passes xs)
    where
      go : (b : Bool) → f x ≡ b → All (λ y. f y ≡ true) (keep f xs) → All (λ y. f y ≡ true) (cond b (x ∷ []) [] ++ keep f xs)
      go true e h = all_cons e h
      go false e h = h

  -- what all that are kept have, each that passes has
  pub all_kept : {P : A → Type 0} (xs : List A) → All P (keep f xs) → All (λ x. f x ≡ true → P x) xs
  unfolding keep
  all_kept [] a = all_nil
  all_kept {P} (x ∷ xs) a = go (f x) refl a (λ b. all_kept xs b)
    where
      go : (b : Bool) → f x ≡ b → All P (cond b (x ∷ []) [] ++ keep f xs) → (All P (keep f xs) → All (λ y. f y ≡ true → P y) xs) → All (λ y. f y ≡ true → P y) (x ∷ xs)
      go true e (all_cons p b) rest = all_cons (λ _. p) (rest b)
      go false e b rest = all_cons (λ t. absurd (true≢false (sym t ∙ e))) (rest b)

  -- where each passes, all are kept
  pub keep_all : {xs : List A} → All (λ x. f x ≡ true) xs → keep f xs ≡ xs
  unfolding keep
  keep_all all_nil = refl
  keep_all (all_cons {x = x} {xs = xs} e a) = rw (e, keep_all a)

  -- where none passes, none is kept
  pub keep_none : {xs : List A} → All (λ x. f x ≡ false) xs → keep f xs ≡ []
  unfolding keep
  keep_none all_nil = refl
  keep_none (all_cons {x = x} {xs = xs} e a) = rw (e, keep_none a)

  -- what was kept is kept again
  pub keep_twice : (xs : List A) → keep f (keep f xs) ≡ keep f xs
  keep_twice xs = keep_all (keep_passes xs)

-- two tests that agree on the list keep the same
pub keep_same : {A : Type 0} (f g : A → Bool) {xs : List A} → All (λ x. f x ≡ g x) xs → keep f xs ≡ keep g xs
unfolding keep
keep_same f g all_nil = refl
keep_same f g (all_cons {x = x} {xs = xs} e a) = rw (e, keep_same f g a)

-- the test made before or after a function
pub keep_map : {A B : Type 0} (f : B → Bool) (g : A → B) (xs : List A) → keep f (map g xs) ≡ map g (keep (λ x. f (g x)) xs)
unfolding keep
keep_map f g [] = refl
keep_map {A} {B} f g (x ∷ xs) = go (f (g x)) (keep_map f g xs)
  where
    go : (b : Bool) → keep f (map g xs) ≡ map g (keep (λ y. f (g y)) xs) → cond b (g x ∷ []) [] ++ keep f (map g xs) ≡ map g (cond b (x ∷ []) [] ++ keep (λ y. f (g y)) xs)
    go true e = ap (λ (l : List B). g x ∷ l) e
    go false e = e

-- one test after the other is both at once
pub keep_both : {A : Type 0} (f g : A → Bool) (xs : List A) → keep g (keep f xs) ≡ keep (λ x. f x && g x) xs
unfolding keep
keep_both f g [] = refl
keep_both {A} f g (x ∷ xs) = go (f x) (keep_both f g xs)
  where
    go : (b : Bool) → keep g (keep f xs) ≡ keep (λ y. f y && g y) xs
        → keep g (cond b (x ∷ []) [] ++ keep f xs) ≡ cond (b && g x) (x ∷ []) [] ++ keep (λ y. f y && g y) xs
    go true e = ap (λ (l : List A). cond (g x) (x ∷ []) [] ++ l) e
    go false e = e
