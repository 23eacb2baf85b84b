-- The cells of a matrix, and the loop that finds the largest number of a list. Assumes nothing.
use Prim.Native.Nat.{ℕ, ◌+◌, ◌≤◌, ◌<◌}
use native.Mathlib.Omega.{arith}
use mathlib.Core.Path.{◌≡◌, refl, sym}
use mathlib.Core.Bool.{Bool, true, false, cond}
use mathlib.Core.List.{List}
use lib.ListN.{length, get_or}
use lib.Ieee.{Float, nan, lt, le, is_nan, of_bits}
use lib.Ieee.Bits.{is_false}
use Rattle.place_record.specs.floats.Binary64.{0f, max}
use Rattle.place_record.specs.floats.Order.{passed, le_right, lt_false_of_le, lt_of_le_false}
use Rattle.place_record.specs.floats.Functions.{max_first, max_second, max_not_nan_left}
use Rattle.place_record.specs.laws.Loops.{fold_more, fold_end}
use Rattle.distance.specs.Matrix.{largest}
use Rattle.distance.specs.Seen.{Seen}

-- ---- the larger of a number and the next, by one comparison

pub larger_next : (a b : Float) → is_nan a ≡ false → le a b ≡ true → b ≡ max a b
larger_next a b n h = sym (max_second a b (lt_false_of_le a b h) (is_false (is_nan b) (le_right a b (passed (le a b) h))))

either : (x : Float) (t : Bool) → x ≡ cond t x x
either x true = refl
either x false = refl

-- a NaN is never the larger
nan_next : (a b : Float) → is_nan b ≡ true → a ≡ max a b
unfolding max
nan_next a b e = rw e (either a (lt b a))

pub larger_stays : (a b : Float) → is_nan a ≡ false → le a b ≡ false → a ≡ max a b
larger_stays a b n h = go (is_nan b) refl
  where
    go : (t : Bool) → is_nan b ≡ t → a ≡ max a b
    go true e = nan_next a b e
    go false e = sym (max_first a b (lt_of_le_false a b n e h))

-- ---- the loop over a list of numbers (specs/Seen)

zero_number : is_nan 0f ≡ false
unfolding is_nan of_bits
zero_number = refl

module _ (xs : List Float) where
  pub seen_none : Seen xs 0f 0
  seen_none = record { within = omega arith; number = zero_number; same = refl }

  pub seen_more : (most next : Float) (i : ℕ) → Seen xs most i → i < length xs → next ≡ max most (get_or xs i nan) → Seen xs next (i + 1)
  seen_more most next i s h e = record { within = omega arith; number = rw e (max_not_nan_left most (get_or xs i nan) s.number); same = rw e (fold_more max nan xs 0f most i s.same h) }

  -- a smaller number is passed over
  pub seen_smaller : (most : Float) (i : ℕ) → Seen xs most i → i < length xs → le most (get_or xs i nan) ≡ false → Seen xs most (i + 1)
  seen_smaller most i s h e = seen_more most most i s h (larger_stays most (get_or xs i nan) s.number e)

  pub seen_all : (most : Float) (i : ℕ) → Seen xs most i → length xs ≤ i → most ≡ largest xs
  unfolding largest
  seen_all most i s h = fold_end max nan xs 0f most i s.same h
