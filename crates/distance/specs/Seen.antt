-- The loop that finds the largest number of a list, as far as it has come. Assumes nothing.
use Rattle.std.specs.Prelude.{ℕ, ◌≤◌, ◌<◌, ◌≡◌, false, List, length, drop, get_or, Float, Option, Some, None}
use Rattle.std.specs.Float.{nan}
use Rattle.std.specs.Float.Ieee.{is_nan}
use Rattle.place_record.specs.floats.Binary64.{0f, max}
use Rattle.place_record.specs.laws.Loops.{foldl}

-- the largest of the numbers before i is `most`: the largest of all is what the rest makes of it
pub record Seen (xs : List Float) (most : Float) (i : ℕ) : Type 0 where
  pub within : i ≤ length xs
  pub number : is_nan most ≡ false
  pub same : foldl max 0f xs ≡ foldl max most (drop i xs)

-- where the next one as large stands, from `start` on: the numbers before it are seen, and it is the larger; where there is none, all are
abbrev pub NextSeen : List Float → Float → ℕ → Option ℕ → Type 0
NextSeen xs most start None = Seen xs most (length xs)
NextSeen xs most start (Some at) = (start ≤ at) × (at < length xs) × Seen xs most at × (get_or xs at nan ≡ max most (get_or xs at nan))
