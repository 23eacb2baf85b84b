-- What the tests of row 2 say of a float and of a slice of floats. Assumes nothing.
use Prim.Native.Nat.{ℕ, zero, suc}
use mathlib.Core.Path.{◌≡◌, refl, ap, ◌∙◌}
use mathlib.Core.Bool.{Bool, true, false, not, ◌&&◌, false≢true}
use mathlib.Core.List.{List, [], ◌∷◌}
use lib.ListN.{length, get_or}
use lib.Ieee.{Float, nan, inf, fin, lt, le, eq, of_bits}
use Rattle.std.specs.List.{list_all}
use Rattle.models.specs.laws.Searches.{every}
use Rattle.models.specs.floats.Binary64.{0f, 1e12, is_finite, is_sign_negative}
use Rattle.models.specs.Valid.{is_amount}

-- ---- an amount

-- test after test, as the code asks
pub amount_tests : (x : Float) → (is_finite x && (not (is_sign_negative x) && le x 1e12)) ≡ is_amount x
unfolding is_amount is_finite is_sign_negative
amount_tests nan = refl
amount_tests (inf s) = refl
amount_tests (fin s m k) = refl

-- above 0 it has its sign clear and is no NaN; an infinity is above 1e12
pub amount_above : (x : Float) → lt 0f x ≡ true → le x 1e12 ≡ is_amount x
unfolding is_amount lt le eq of_bits
amount_above nan h = absurd (false≢true h)
amount_above (inf true) h = absurd (false≢true h)
amount_above (inf false) h = refl
amount_above (fin true m k) h = absurd (false≢true h)
amount_above (fin false m k) h = refl

-- ---- cells

every_shifted : (t : ℕ → Bool) (m k : ℕ) → every (λ i. t (suc i)) m k ≡ every t m (suc k)
unfolding every
every_shifted t zero k = refl
every_shifted t (suc m) k = ap (λ (b : Bool). t (suc k) && b) (every_shifted t m (suc k))

-- a test of each element, as a test of each index
pub all_every : (f : Float → Bool) (d : Float) (xs : List Float) → list_all f xs ≡ every (λ k. f (get_or xs k d)) (length xs) 0
unfolding every
all_every f d [] = refl
all_every f d (x ∷ xs) = ap (λ (b : Bool). f x && b) (all_every f d xs ∙ every_shifted (λ k. f (get_or (x ∷ xs) k d)) (length xs) 0)
