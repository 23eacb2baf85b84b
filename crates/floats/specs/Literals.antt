-- For the code's literals: each constant is its decimal number rounded once, and under `unfolding of_bits` it computes
-- to its `fin s m e`. The last section has closed terms that compute, as checks of the vocabulary: the `unfolding` line
-- names each operation that a term calls. Assumes nothing.
use Rattle.std.specs.Prelude.{◌≡◌, refl, ◌^◌, true, false, pos}
use Rattle.std.specs.Float.{nan, fin, binary64}
use Rattle.std.specs.Float.Ieee.{round, neg, add, sub, mul, div, lt, is_nan, of_int, of_bits, to_bits}
use Rattle.floats.specs.Binary64.{◌⊕◌, ◌⊖◌, ◌⊗◌, ◌⊘◌, 0f, 1f, 1e-6, 1e-9, 1e-12, 1e12, +∞, is_finite, max, min}
use Rattle.floats.specs.Binary64.{abs, -0f, -∞}
use Rattle.floats.specs.Order.{plus_zero, minus_zero}
use Rattle.floats.specs.Whole.{nat}

pub 0f_is : 0f ≡ plus_zero
unfolding of_bits
0f_is = refl

pub -0f_is : -0f ≡ minus_zero
unfolding neg of_bits
-0f_is = refl

pub 1f_is : 1f ≡ fin false 1 (pos 0)
unfolding of_bits
1f_is = refl

pub 1e12_is : 1e12 ≡ nat (10 ^ 12)
unfolding of_bits of_int
1e12_is = refl

pub 1e-6_is : 1e-6 ≡ round binary64 false 1 (10 ^ 6)
unfolding of_bits round
1e-6_is = refl

pub 1e-9_is : 1e-9 ≡ round binary64 false 1 (10 ^ 9)
unfolding of_bits round
1e-9_is = refl

pub 1e-12_is : 1e-12 ≡ round binary64 false 1 (10 ^ 12)
unfolding of_bits round
1e-12_is = refl

-- ---- closed terms

-- 481 + 481 + 2 * (481 - 480)
priced : nat 481 ⊕ nat 481 ⊕ nat 2 ⊗ (nat 481 ⊖ nat 480) ≡ nat 964
unfolding of_int add sub mul
priced = refl

-- 0.3 < 0.1 + 0.2
tenths :
    lt (of_bits binary64 0x3fd3_3333_3333_3333)
    (of_bits binary64 0x3fb9_9999_9999_999a ⊕ of_bits binary64 0x3fc9_9999_9999_999a) ≡ true
unfolding of_bits add lt
tenths = refl

-- A bit pattern is the shortest way to state a result that is not exact.
third : to_bits binary64 (nat 1 ⊘ nat 3) ≡ 0x3fd5_5555_5555_5555
unfolding of_int div to_bits
third = refl

-- `max` and `min` at a NaN, and of two zeros the second
max_nan : max nan 1f ≡ 1f
unfolding max lt is_nan of_bits
max_nan = refl

max_zeros : max 0f -0f ≡ -0f
unfolding max neg lt is_nan of_bits
max_zeros = refl

min_zeros : min -0f 0f ≡ 0f
unfolding min neg lt is_nan of_bits
min_zeros = refl

min_ends : min -∞ (max +∞ 1f) ≡ -∞
unfolding min max lt is_nan of_bits
min_ends = refl

abs_zero : abs -0f ≡ 0f
unfolding abs neg of_bits
abs_zero = refl

not_finite : is_finite (1f ⊘ 0f) ≡ false
unfolding is_finite div of_bits
not_finite = refl
