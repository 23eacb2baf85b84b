-- For a test that asks for a gain: what is below x - y, for a y that is not below zero, is below x. So
-- cost < before - c * |before| implies cost < before. Of `before` it asks only that it is an f64: a NaN, an infinity,
-- -0 and values below zero are all covered, since the test fails wherever the difference is a NaN, and elsewhere
-- x - y ≤ x - 0 = x. Assumes nothing.
use Rattle.std.specs.Prelude.{◌≡◌, refl, ℕ, ◌+◌, ◌*◌, ◌≤◌, ◌<◌, Bool, true, not, cond, ℤ, pos, T, eqb, Float}
use Rattle.std.proofs.Common.{sym, ap, ◌∙◌, subst, zero-mul, mul-zero, mul-pos, arith, nltb→le, T_not}
use Rattle.std.proofs.Math.Nat.{eq_of_mul-eq-mul_right}
use Rattle.std.proofs.Math.Bool.{false}
use Rattle.std.specs.Float.{nan, inf, fin, binary64}
use Rattle.std.specs.Float.Ieee.{up, down, unlike, round, sub, mul, lt, le, fits, is_nan, of_bits}
use Rattle.std.specs.Float.Ieee.Fits.{up_pos, down_pos}
use Rattle.std.specs.Float.Ieee.Bits.{is_true, is_false}
use Rattle.floats.specs.Binary64.{◌⊖◌, ◌⊗◌, 0f, 1e-12, abs}
use Rattle.floats.specs.Order.{plus_zero, le_of_nlt, le_self, lt_le, lt_right, passed, negated}
use Rattle.floats.specs.Exact.{round_zero}
use Rattle.floats.specs.Sign.{round_sign, clear_not_below}
use Rattle.floats.specs.Plain.{sub_zero_right}
use Rattle.floats.specs.Functions.{abs_not_below}
use Rattle.floats.specs.Monotone.{sub_mono}

-- ---- x - y is at most x

numbers_sub : (s : Bool) (m : ℕ) (e : ℤ) (t : Bool) (n : ℕ) (d : ℤ) → T (fits binary64 (fin s m e))
    → T (not (lt (fin t n d) plus_zero)) → T (le (fin s m e ⊖ fin t n d) (fin s m e))
unfolding of_bits is_nan
numbers_sub s m e t n d p h =
    let x = fin s m e in
    let y = fin t n d in
    subst (λ (z : Float). T (le (x ⊖ y) z)) (sub_zero_right x p)
    (sub_mono x x y plus_zero tt tt tt tt (le_self x tt) (le_of_nlt y plus_zero tt tt (T_not (lt y plus_zero) h)))

at_most : (x y : Float) → T (fits binary64 x) → T (not (lt y plus_zero)) → T (not (is_nan (x ⊖ y))) → T (le (x ⊖ y) x)
unfolding sub lt le is_nan
at_most nan y p h q = absurd q
at_most (inf s) nan p h q = absurd q
at_most (inf s) (inf true) p h q = absurd h
at_most (inf true) (inf false) p h q = tt
at_most (inf false) (inf false) p h q = absurd q
at_most (inf true) (fin t n d) p h q = tt
at_most (inf false) (fin t n d) p h q = tt
at_most (fin s m e) nan p h q = absurd q
at_most (fin s m e) (inf true) p h q = absurd h
at_most (fin s m e) (inf false) p h q = tt
at_most (fin s m e) (fin t n d) p h q = numbers_sub s m e t n d p h

-- wherever the difference is no NaN
pub sub_le_self : (x y : Float) → T (fits binary64 x) → lt y 0f ≡ false → is_nan (x ⊖ y) ≡ false → le (x ⊖ y) x ≡ true
unfolding of_bits
sub_le_self x y p h q = is_true (le (x ⊖ y) x) (at_most x y p (negated (lt y plus_zero) h) (negated (is_nan (x ⊖ y)) q))

-- A test that passes has no NaN in it, so it needs no such premise.
pub lt_of_lt_sub : (c x y : Float) → T (fits binary64 x) → lt y 0f ≡ false → lt c (x ⊖ y) ≡ true → lt c x ≡ true
unfolding of_bits
lt_of_lt_sub c x y p h k =
    let k' = passed (lt c (x ⊖ y)) k in
    is_true (lt c x) (lt_le c (x ⊖ y) x k' (at_most x y p (negated (lt y plus_zero) h) (lt_right c (x ⊖ y) k')))

-- ---- a product of two values that are not below zero is not below zero

zero_size : (k c : ℕ) → k * 1 + 0 * c ≤ 0 → k ≡ 0
zero_size k c h = omega arith

-- a number with its sign set that is not below zero is a zero
zero_of_signed : (n : ℕ) (d : ℤ) → T (not (lt (fin true n d) plus_zero)) → n * up d ≡ 0
unfolding lt
zero_of_signed n d h = zero_size (n * up d) (down d) (nltb→le 0 (n * up d * 1 + 0 * down d) h)

zero_digits : (n : ℕ) (d : ℤ) → n * up d ≡ 0 → n ≡ 0
zero_digits n d h = eq_of_mul-eq-mul_right (up d) (up_pos d) n 0 (h ∙ sym (zero-mul (up d)))

nan_or_clear : (b : Bool) → T (not (lt (cond b nan (inf false)) plus_zero))
unfolding lt
nan_or_clear true = tt
nan_or_clear false = tt

nan_at_zero : (n : ℕ) (x : Float) → n ≡ 0 → T (not (lt (cond (eqb n 0) nan x) plus_zero))
nan_at_zero n x z = subst (λ (k : ℕ). T (not (lt (cond (eqb k 0) nan x) plus_zero))) (sym z) (unfold lt in tt)

rounded_zero : (s : Bool) (a c : ℕ) → 0 < c → a ≡ 0 → T (not (lt (round binary64 s a c) plus_zero))
rounded_zero s a c C z =
    subst (λ (x : Float). T (not (lt x plus_zero)))
    (sym (ap (λ (k : ℕ). round binary64 s k c) z ∙ round_zero binary64 s c C)) (sides s)
  where
    sides : (s : Bool) → T (not (lt (fin s 0 (pos 0)) plus_zero))
    sides true = unfold lt in tt
    sides false = unfold lt in tt

product : (x y : Float) → T (not (lt x plus_zero)) → T (not (lt y plus_zero)) → T (not (lt (x ⊗ y) plus_zero))
unfolding mul lt
product nan y p q = tt
product (inf true) y p q = absurd p
product (inf false) nan p q = tt
product (inf false) (inf true) p q = absurd q
product (inf false) (inf false) p q = tt
product (inf false) (fin true n d) p q = nan_at_zero n (inf true) (zero_digits n d (zero_of_signed n d q))
product (inf false) (fin false n d) p q = nan_or_clear (eqb n 0)
product (fin s m e) nan p q = tt
product (fin s m e) (inf true) p q = absurd q
product (fin true m e) (inf false) p q = nan_at_zero m (inf true) (zero_digits m e (zero_of_signed m e p))
product (fin false m e) (inf false) p q = nan_or_clear (eqb m 0)
product (fin true m e) (fin t n d) p q =
    rounded_zero (unlike true t) (m * up e * (n * up d)) (down e * down d) (mul-pos (down_pos e) (down_pos d))
    (ap (λ (z : ℕ). z * (n * up d)) (zero_of_signed m e p) ∙ zero-mul (n * up d))
product (fin false m e) (fin true n d) p q =
    rounded_zero true (m * up e * (n * up d)) (down e * down d) (mul-pos (down_pos e) (down_pos d))
    (ap (λ (z : ℕ). m * up e * z) (zero_of_signed n d q) ∙ mul-zero (m * up e))
product (fin false m e) (fin false n d) p q =
    let a = m * up e * (n * up d) in
    let c = down e * down d in
    clear_not_below (round binary64 false a c) (round_sign binary64 false a c)

pub mul_not_below : (x y : Float) → lt x 0f ≡ false → lt y 0f ≡ false → lt (x ⊗ y) 0f ≡ false
unfolding of_bits
mul_not_below x y p q =
    is_false (lt (x ⊗ y) plus_zero) (product x y (negated (lt x plus_zero) p) (negated (lt y plus_zero) q))

-- ---- the test

-- for any share c that is not below zero
pub gain : (c cost before : Float) → lt c 0f ≡ false → T (fits binary64 before)
    → lt cost (before ⊖ c ⊗ abs before) ≡ true → lt cost before ≡ true
gain c cost before C p h =
    lt_of_lt_sub cost before (c ⊗ abs before) p (mul_not_below c (abs before) C (abs_not_below before)) h

-- `cost < before - 1e-12 * before.abs()`
pub accepted : (cost before : Float) → T (fits binary64 before) → lt cost (before ⊖ 1e-12 ⊗ abs before) ≡ true
    → lt cost before ≡ true
accepted cost before p h = gain 1e-12 cost before (unfold of_bits lt in refl) p h
