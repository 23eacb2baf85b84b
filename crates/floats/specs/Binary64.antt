-- The vocabulary of binary64, Rust's f64: the operators, the constants, and the functions that the code stands in for.
-- A `Float` is `nan`, an infinity `inf s`, or the number `fin s m e`, which is m * 2 ^ e, negative where s is true;
-- zero keeps its sign. Assumes nothing.
use Rattle.std.specs.Prelude.{ℕ, ◌+◌, ◌-◌, ◌^◌, Bool, true, false, cond, ℤ, pos, negsuc, ltb, Float}
use Rattle.std.specs.Int.Signed.{lt_z}
use Rattle.std.specs.Float.{nan, inf, fin, binary64}
use Rattle.std.specs.Float.Ieee.{neg, add, sub, mul, div, lt, is_nan, of_bits, to_bits}

-- ---- operators: Rust's `+`, `-`, `*`, `/` on f64, each the exact result rounded once

infixl 60 ◌⊕◌ ◌⊖◌
infixl 70 ◌⊗◌ ◌⊘◌
-- Rust's `x + y`
abbrev pub ◌⊕◌ : Float → Float → Float
x ⊕ y = add binary64 x y

-- Rust's `x - y`
abbrev pub ◌⊖◌ : Float → Float → Float
x ⊖ y = sub binary64 x y

-- Rust's `x * y`
abbrev pub ◌⊗◌ : Float → Float → Float
x ⊗ y = mul binary64 x y

-- Rust's `x / y`
abbrev pub ◌⊘◌ : Float → Float → Float
x ⊘ y = div binary64 x y

-- ---- constants, by the bit patterns as which the code's literals are read

-- the literal `0.0`
abbrev pub 0f : Float
0f = of_bits binary64 0

-- the literal `-0.0`, where Rust's `sum` of f64s starts
abbrev pub -0f : Float
-0f = neg 0f

-- the literal `1.0`
abbrev pub 1f : Float
1f = of_bits binary64 0x3ff0_0000_0000_0000

-- the literal `1e-6`
abbrev pub 1e-6 : Float
1e-6 = of_bits binary64 0x3eb0_c6f7_a0b5_ed8d

-- the literal `1e-9`
abbrev pub 1e-9 : Float
1e-9 = of_bits binary64 0x3e11_2e0b_e826_d695

-- the literal `1e-12`
abbrev pub 1e-12 : Float
1e-12 = of_bits binary64 0x3d71_9799_812d_ea11

-- the literal `1e12`
abbrev pub 1e12 : Float
1e12 = of_bits binary64 0x426d_1a94_a200_0000

-- Rust's `f64::INFINITY`
abbrev pub +∞ : Float
+∞ = inf false

-- Rust's `f64::NEG_INFINITY`
abbrev pub -∞ : Float
-∞ = inf true

-- ---- functions, for every f64

-- Rust's `f64::is_finite`: neither an infinity nor a NaN
unfoldable pub is_finite : Float → Bool
is_finite nan = false
is_finite (inf s) = false
is_finite (fin s m e) = true

-- Rust's `f64::max`: the larger; the other where exactly one is a NaN; the second where the two are equal, as 0.0 and
-- -0.0 are, of which Rust may return either
unfoldable pub max : Float → Float → Float
max a b = cond (lt b a) a (cond (is_nan b) a b)

-- Rust's `f64::min`: the smaller; the other where exactly one is a NaN; the second where the two are equal, as above
unfoldable pub min : Float → Float → Float
min a b = cond (lt a b) a (cond (is_nan b) a b)

-- Rust's `f64::abs`: the sign cleared; a NaN stays a NaN
unfoldable pub abs : Float → Float
abs nan = nan
abs (inf s) = inf false
abs (fin s m e) = fin false m e

-- Rust's `f64::is_sign_negative`: whether the sign bit is set, as it is in -0.0; a NaN has no sign here
unfoldable pub is_sign_negative : Float → Bool
is_sign_negative nan = false
is_sign_negative (inf s) = s
is_sign_negative (fin s m e) = s

-- the bit pattern as Rust's `f64::total_cmp` reads it: 63 bits, counted down from -1 where the sign bit is set
unfoldable pub total_rank : Float → ℤ
total_rank x = cond (ltb (to_bits binary64 x) (2 ^ 63)) (pos (to_bits binary64 x)) (negsuc (to_bits binary64 x - 2 ^ 63))

-- Rust's `f64::total_cmp` says `Less`
unfoldable pub total_less : Float → Float → Bool
total_less x y = lt_z (total_rank x) (total_rank y)

-- `total_rank` counted from 0 on, as a u64
unfoldable pub total_key : Float → ℕ
total_key x = cond (ltb (to_bits binary64 x) (2 ^ 63)) (to_bits binary64 x + 2 ^ 63) (2 ^ 64 - 1 - to_bits binary64 x)
