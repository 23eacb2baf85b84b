-- Searches over a list that end at the first hit. Assumes nothing.
use Prim.Native.Nat.{ℕ, zero, suc, ◌+◌, ◌-◌, ◌≤◌, ◌<◌}
use Rattle.std.specs.Prelude.{◌≡◌, refl, Bool, true, false, ◌&&◌, ◌||◌, length, get_or, drop}
use Rattle.std.specs.List.{list_any, list_all, range_with_len}
use Rattle.std.proofs.Math.Path.{sym, ap}
use Rattle.std.proofs.Common.{subst, ◌∙◌, true≢false, le_of_suc-le-suc, not-suc-le-zero, zero-add, drop_of_length-le, drop-cons}
use Rattle.std.proofs.lemmas.Bool.{false≢true}
use mathlib.Core.List.{List, [], ◌∷◌}
use Rattle.std.proofs.Math.Numerals.{add-one}
use native.Mathlib.Omega.{arith}
use Rattle.laws.specs.All.{All, all_nil, all_cons}

-- ---- both tests of a conjunction or a disjunction

pub and_first : (a b : Bool) → (a && b) ≡ true → a ≡ true
and_first true b e = refl
and_first false b e = e

pub and_second : (a b : Bool) → (a && b) ≡ true → b ≡ true
and_second true b e = e
and_second false b e = absurd (false≢true e)

pub or_neither : (a b : Bool) → (a || b) ≡ false → (a ≡ false) × (b ≡ false)
or_neither true b e = absurd (true≢false e)
or_neither false b e = (refl, e)

-- ---- a hit

-- some element passes the test: `iter().any(f)`
abbrev pub any : {A : Type 0} → (A → Bool) → List A → Bool
any f xs = list_any f xs

-- In code, over a list by its index i: nothing before i has passed, so the whole has a hit exactly if what is left has one.
module _ {A : Type 0} (f : A → Bool) (d : A) (xs : List A) where
  pub any_skip : (i : ℕ) → any f xs ≡ any f (drop i xs) → i < length xs → f (get_or xs i d) ≡ false → any f xs ≡ any f (drop (i + 1) xs)
  any_skip i e h t = e ∙ rw (drop-cons xs i d h, t, add-one i)

  pub any_hit : (i : ℕ) → any f xs ≡ any f (drop i xs) → i < length xs → f (get_or xs i d) ≡ true → true ≡ any f xs
  any_hit i e h t = sym (e ∙ rw (drop-cons xs i d h, t))

  pub any_end : (i : ℕ) → any f xs ≡ any f (drop i xs) → length xs ≤ i → false ≡ any f xs
  any_end i e h = sym (e ∙ ap (λ (l : List A). any f l) (drop_of_length-le xs h))

-- where no element passes, each fails the test
pub any_none : {A : Type 0} (f : A → Bool) (xs : List A) → any f xs ≡ false → All (λ x. f x ≡ false) xs
any_none f [] e = all_nil
any_none f (x ∷ xs) e = go (f x) refl e (λ h. any_none f xs h)
  where
    go : (b : Bool) → f x ≡ b → (b || any f xs) ≡ false → (any f xs ≡ false → All (λ y. f y ≡ false) xs) → All (λ y. f y ≡ false) (x ∷ xs)
    go true p q rest = absurd (true≢false q)
    go false p q rest = all_cons p (rest q)

-- ---- no fault

-- each of the m numbers from k on passes the test: a loop over k..k + m that ends at the first that fails
unfoldable pub every : (ℕ → Bool) → ℕ → ℕ → Bool
every t zero k = true
every t (suc m) k = t k && every t m (suc k)

-- it is `(k..k + m).all(t)`
pub range_every : (t : ℕ → Bool) (m k : ℕ) → list_all t (range_with_len k m) ≡ every t m k
unfolding every
range_every t zero k = refl
range_every t (suc m) k = rw (add-one k) (ap (λ (b : Bool). t k && b) (range_every t m (suc k)))

-- In code, with k the number at hand of those below r.
module _ (t : ℕ → Bool) (r k : ℕ) where
  pub every_skip : k < r → t k ≡ true → every t (r - k) k ≡ every t (r - (k + 1)) (k + 1)
  unfolding every
  every_skip h e =
      let f : r - k ≡ suc (r - (k + 1)) = omega arith in
      rw (f, e, add-one)

  pub every_stop : k < r → t k ≡ false → every t (r - k) k ≡ false
  unfolding every
  every_stop h e =
      let f : r - k ≡ suc (r - (k + 1)) = omega arith in
      rw (f, e)

  pub every_end : r ≤ k → every t (r - k) k ≡ true
  unfolding every
  every_end h =
      let f : r - k ≡ 0 = omega arith in
      rw f

-- where all pass, each one does
pub every_holds : (t : ℕ → Bool) (m k i : ℕ) → every t m k ≡ true → i < m → t (k + i) ≡ true
unfolding every
every_holds t zero k i e h = absurd (not-suc-le-zero h)
every_holds t (suc m) k zero e h = let z : k + 0 ≡ k = omega arith in rw z (and_first (t k) (every t m (suc k)) e)
every_holds t (suc m) k (suc i) e h =
    let z : k + suc i ≡ suc k + i = omega arith in
    rw z (every_holds t m (suc k) i (and_second (t k) (every t m (suc k)) e) (le_of_suc-le-suc h))

pub every_at : (t : ℕ → Bool) (m i : ℕ) → every t m 0 ≡ true → i < m → t i ≡ true
every_at t m i e h = subst (λ (k : ℕ). t k ≡ true) (zero-add i) (every_holds t m 0 i e h)
