-- The branches of `float_of` and `bits_of` return what the patterns stand for. Assumes nothing.
use mathlib.Core.Path.{◌≡◌, refl, sym, ap, ◌∙◌}
use mathlib.Core.Bool.{true, not, false≢true}
use Prim.Native.Nat.{ℕ, ◌%◌, ◌<◌, ◌≤◌, ◌^◌}
use lib.Dec.{T}
use lib.Ieee.{Float, nan, inf, fin, binary64, of_bits, to_bits, is_nan, nan_bits, div}
use lib.Ieee.Bits.{nan_bits_is, nan_bits_above}
use borrow.Author.Tests.{lt-ltb, le-ltb}
use Rattle.floats.specs.Binary64.{0f, ◌⊘◌}

the_nan : (x : Float) → is_nan x ≡ true → nan ≡ x
the_nan nan e = refl
the_nan (inf s) e = absurd (unfold is_nan in false≢true e)
the_nan (fin s m n) e = absurd (unfold is_nan in false≢true e)

pub pattern_of_nan : (x : Float) → is_nan x ≡ true → 0x7ff8_0000_0000_0000 ≡ to_bits binary64 x
pattern_of_nan x h = go (the_nan x h)
  where
    written : 0x7ff8_0000_0000_0000 ≡ to_bits binary64 nan
    written = unfold to_bits in refl

    go : {x : Float} → nan ≡ x → 0x7ff8_0000_0000_0000 ≡ to_bits binary64 x
    go e = written ∙ ap (to_bits binary64) e

none : 0f ⊘ 0f ≡ nan
none = unfold div of_bits in refl

module _ (bits : ℕ) where
  pub nan_of_pattern : 0x7ff0_0000_0000_0000 < bits % 2 ^ 63 → 0f ⊘ 0f ≡ of_bits binary64 bits
  nan_of_pattern h =
      none ∙ the_nan (of_bits binary64 bits) (sym (nan_bits_is binary64 bits) ∙ (nan_bits_above binary64 bits ∙ lt-ltb 0x7ff0_0000_0000_0000 (bits % 2 ^ 63) h))

  pub float_asked : bits % 2 ^ 63 ≤ 0x7ff0_0000_0000_0000 → T (not (nan_bits binary64 bits))
  float_asked h = rw (nan_bits_above binary64 bits ∙ le-ltb 0x7ff0_0000_0000_0000 (bits % 2 ^ 63) h) tt

pub ruleset value_laws = (pattern_of_nan, nan_of_pattern, float_asked)
