-- What the kit's `abs` and `is_finite` and the branches of `is_sign_negative` and `total_key` return is what their definitions say.
-- Assumes nothing.
use mathlib.Core.Path.{◌≡◌, refl, sym}
use Prim.Native.Nat.{ℕ, zero, suc, ◌+◌, ◌-◌, ◌*◌, ◌^◌, ◌≤◌, ◌<◌}
use native.Mathlib.Nat.{mul-pos, zero-lt-suc}
use native.Mathlib.Omega.{arith}
use mathlib.Core.Bool.{Bool, true, false, false≢true}
use lib.IntN.{ℤ, pos}
use lib.Dec.{T, ltb}
use lib.Ieee.{Float, nan, inf, fin, binary64, up, down, div, lt, eq, fits}
use lib.Ieee.{of_bits, to_bits, is_nan}
use lib.Ieee.Fits.{up_pos}
use lib.Ieee.Bits.{is_true, is_false, to_bits-lt}
use borrow.Author.Tests.{lt-ltb, le-ltb}
use Rattle.std.specs.Float.{float_is_finite, float_with_sign}
use Rattle.floats.specs.Binary64.{◌⊘◌, 0f, 1f, is_finite, abs, is_sign_negative, total_key, total_less}
use Rattle.floats.specs.Order.{plus_zero, passed, failed, le→AtMost, AtMost→le, Less→lt, eq→le, eq_sym}
use Rattle.floats.specs.Order.{eq_of_le}
use Rattle.floats.specs.Sign.{clear_not_below}
use Rattle.floats.proofs.Bits.{total_less_keys}

-- The kit's functions are these, case by case.
pub abs_kit : {y : Float} (x : Float) → y ≡ float_with_sign false x → y ≡ abs x
unfolding abs float_with_sign
abs_kit nan e = e
abs_kit (inf s) e = e
abs_kit (fin s m n) e = e

pub finite_kit : {t : Bool} (x : Float) → t ≡ float_is_finite x → t ≡ is_finite x
unfolding is_finite float_is_finite
finite_kit nan e = e
finite_kit (inf s) e = e
finite_kit (fin s m n) e = e

-- A number equals zero exactly where its digits are 0.
above_or_zero : (a c : ℕ) → 0 < a → a * 1 + 0 * c ≤ 0 * c + 0 * 1 → ⊥
above_or_zero a c A h = omega arith

zero_or_under : (a c : ℕ) → 0 < a → 0 * c + a * 1 ≤ 0 * 1 + 0 * c → ⊥
zero_or_under a c A h = omega arith

not_zero : (s : Bool) (m : ℕ) (e : ℤ) → T (eq (fin s (suc m) e) plus_zero) → ⊥
not_zero false m e h =
    above_or_zero (suc m * up e) (down e) (mul-pos (zero-lt-suc m) (up_pos e))
    (le→AtMost false (suc m) e false 0 (pos 0) (eq→le (fin false (suc m) e) plus_zero h))
not_zero true m e h =
    zero_or_under (suc m * up e) (down e) (mul-pos (zero-lt-suc m) (up_pos e))
    (le→AtMost false 0 (pos 0) true (suc m) e
    (eq→le plus_zero (fin true (suc m) e) (eq_sym (fin true (suc m) e) plus_zero h)))

is_zero : (s : Bool) (e : ℤ) → T (eq (fin s 0 e) plus_zero)
is_zero false e =
    eq_of_le (fin false 0 e) plus_zero (AtMost→le false 0 e false 0 (pos 0) (omega arith))
    (AtMost→le false 0 (pos 0) false 0 e (omega arith))
is_zero true e =
    eq_of_le (fin true 0 e) plus_zero (AtMost→le true 0 e false 0 (pos 0) (omega arith))
    (AtMost→le false 0 (pos 0) true 0 e (omega arith))

-- Of the zeros only -0.0 has a reciprocal below zero.
pub sign_of_zero : (x : Float) → eq x 0f ≡ true → lt (1f ⊘ x) 0f ≡ is_sign_negative x
unfolding is_sign_negative of_bits
sign_of_zero nan h = unfold div lt in refl
sign_of_zero (inf s) h = absurd (unfold eq in false≢true h)
sign_of_zero (fin true zero e) h = unfold div lt in refl
sign_of_zero (fin false zero e) h = unfold div lt in refl
sign_of_zero (fin s (suc m) e) h = absurd (not_zero s m e (passed (eq (fin s (suc m) e) plus_zero) h))

-- Any other value is below zero exactly where its sign is set.
pub sign_of_other : (x : Float) → eq x 0f ≡ false → lt x 0f ≡ is_sign_negative x
unfolding is_sign_negative of_bits
sign_of_other nan h = unfold lt in refl
sign_of_other (inf s) h = unfold lt in refl
sign_of_other (fin s zero e) h = absurd (failed (eq (fin s 0 e) plus_zero) h (is_zero s e))
sign_of_other (fin true (suc m) e) h =
    is_true (lt (fin true (suc m) e) plus_zero)
    (Less→lt true (suc m) e false 0 (pos 0) (under_zero (suc m * up e) (down e) (mul-pos (zero-lt-suc m) (up_pos e))))
  where
    under_zero : (a c : ℕ) → 0 < a → 0 * 1 + 0 * c < 0 * c + a * 1
    under_zero a c A = omega arith
sign_of_other (fin false (suc m) e) h =
    is_false (lt (fin false (suc m) e) plus_zero) (clear_not_below (fin false (suc m) e) refl)

-- ---- `total_key`

pub key_of_nan : (x : Float) → is_nan x ≡ true → 0xfff8_0000_0000_0000 ≡ total_key x
key_of_nan nan h = unfold total_key to_bits in refl
key_of_nan (inf s) h = absurd (unfold is_nan in false≢true h)
key_of_nan (fin s m n) h = absurd (unfold is_nan in false≢true h)

module _ (x : Float) where
  pub key_clear : to_bits binary64 x < 2 ^ 63 → to_bits binary64 x + 2 ^ 63 ≡ total_key x
  unfolding total_key
  key_clear h = rw (lt-ltb (to_bits binary64 x) (2 ^ 63) h)

  pub key_set : 2 ^ 63 ≤ to_bits binary64 x → 2 ^ 64 - 1 - to_bits binary64 x ≡ total_key x
  unfolding total_key
  key_set h = rw (le-ltb (to_bits binary64 x) (2 ^ 63) h)

  pub key_bits : fits binary64 x ≡ true → to_bits binary64 x ≤ 2 ^ 64 - 1
  key_bits h = omega (arith, to_bits-lt binary64 x (passed (fits binary64 x) h))

pub ruleset key_laws = (key_of_nan, key_clear, key_set, key_bits)

pub keys_tested : (x y : Float) (a b : ℕ) → fits binary64 x ≡ true → fits binary64 y ≡ true → a ≡ total_key x → b ≡ total_key y → ltb a b ≡ total_less x y
keys_tested x y a b h k e f = rw (e, f) (sym (total_less_keys x y (passed (fits binary64 x) h) (passed (fits binary64 y) k)))
