-- Counted loops and folds, with the rules that carry a property through them, and what a loop over a list by its index knows of a fold.
-- Assumes nothing.
use Rattle.std.specs.Prelude.{ℕ, zero, suc, ◌+◌, ◌≤◌, ◌<◌, ◌≡◌, Bool, true, false, cond, length, get_or, drop, ltb}
use Rattle.std.proofs.Math.Path.{refl, sym, ap}
use Rattle.std.proofs.Common.{◌∙◌, le_refl, arith, drop_of_length-le, drop-cons, ltb-true, ltb-false}
use mathlib.Core.List.{List, [], ◌∷◌}
use Rattle.std.proofs.Math.Numerals.{add-one}
use Rattle.laws.specs.All.{All, all_nil, all_cons}

-- what `for i in 0..n { s = f(i, s); }` leaves of s
unfoldable pub loop : {S : Type 0} → ℕ → (ℕ → S → S) → S → S
loop zero f s = s
loop (suc n) f s = f n (loop n f s)

-- what `for x in xs { s = f(s, x); }` leaves of s
unfoldable pub foldl : {A S : Type 0} → (S → A → S) → S → List A → S
foldl f s [] = s
foldl f s (x ∷ xs) = foldl f (f s x) xs

-- ---- rules: what holds at the start and is kept by each turn holds at the end

pub cond_rule : {A : Type 0} (P : A → Type 0) (b : Bool) {x y : A} → (b ≡ true → P x) → (b ≡ false → P y) → P (cond b x y)
cond_rule P true f g = f refl
cond_rule P false f g = g refl

pub loop_rule : {S : Type 0} (P : ℕ → S → Type 0) (n : ℕ) (f : ℕ → S → S) {s : S}
    → ((i : ℕ) (t : S) → i < n → P i t → P (suc i) (f i t)) → P zero s → P n (loop n f s)
unfolding loop
loop_rule P zero f step base = base
loop_rule P (suc n) f {s} step base = step n (loop n f s) (le_refl (suc n)) (loop_rule P n f (λ i t h. step i t (omega arith)) base)

pub foldl_rule : {A S : Type 0} (P : S → Type 0) (Q : A → Type 0) (f : S → A → S) {s : S} {xs : List A}
    → ((t : S) (x : A) → Q x → P t → P (f t x)) → All Q xs → P s → P (foldl f s xs)
unfolding foldl
foldl_rule P Q f step all_nil base = base
foldl_rule P Q f {s} step (all_cons {x = x} q a) base = foldl_rule P Q f step a (step s x q base)

-- turns that agree make one loop
pub loop_same : {S : Type 0} (n : ℕ) (f g : ℕ → S → S) (s : S) → ((i : ℕ) (t : S) → f i t ≡ g i t) → loop n f s ≡ loop n g s
unfolding loop
loop_same zero f g s e = refl
loop_same (suc n) f g s e = e n (loop n f s) ∙ ap (g n) (loop_same n f g s e)

-- a turn more: what holds of each number below m, and of m
pub up_to : {P : Type 0} (m j : ℕ) → j < suc m → (j < m → P) → (j ≡ m → P) → P
up_to {P} m j k f g = go (ltb j m) refl
  where
    go : (t : Bool) → ltb j m ≡ t → P
    go true e = f (ltb-true j m e)
    go false e = g (omega (arith, ltb-false j m e))

-- ---- a counted loop in code: the state before turn i is `loop i f s`

module _ {S : Type 0} (f : ℕ → S → S) (s : S) where
  pub loop_none : s ≡ loop 0 f s
  unfolding loop
  loop_none = refl

  pub loop_more : (i : ℕ) (t u : S) → t ≡ loop i f s → u ≡ f i t → u ≡ loop (i + 1) f s
  unfolding loop
  loop_more i t u e g = rw add-one (g ∙ ap (f i) e)

  pub loop_end : (i n : ℕ) (t : S) → t ≡ loop i f s → i ≡ n → t ≡ loop n f s
  loop_end i n t e g = e ∙ ap (λ (k : ℕ). loop k f s) g

-- ---- a fold in code, over a list by its index: the fold of the whole is the fold of what is left, from the state reached

module _ {A S : Type 0} (f : S → A → S) (d : A) (xs : List A) where
  pub fold_more : (first s : S) (i : ℕ) → foldl f first xs ≡ foldl f s (drop i xs) → i < length xs
      → foldl f first xs ≡ foldl f (f s (get_or xs i d)) (drop (i + 1) xs)
  unfolding foldl
  fold_more first s i e h = e ∙ rw (drop-cons xs i d h, add-one i)

  pub fold_end : (first s : S) (i : ℕ) → foldl f first xs ≡ foldl f s (drop i xs) → length xs ≤ i → s ≡ foldl f first xs
  unfolding foldl
  fold_end first s i e h = sym (e ∙ ap (λ (l : List A). foldl f s l) (drop_of_length-le xs h))
