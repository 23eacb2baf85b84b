-- The distance matrix (distance/matrix.rs). Assumes nothing.
use Rattle.std.specs.Prelude.{ℕ, ◌+◌, ◌*◌, List, cond, length, get_or, eqb, Float}
use Rattle.std.specs.Float.{nan}
use Rattle.place_record.specs.floats.Binary64.{0f, max}
use Rattle.place_record.specs.laws.Loops.{foldl}
use Rattle.place_record.specs.models.Problem.{DistanceMatrix}

-- the cell from one place to another, row by row
abbrev pub cell : List Float → ℕ → ℕ → ℕ → Float
cell cells n from to = get_or cells (from * n + to) nan

-- DistanceMatrix::get, within the matrix
abbrev pub get : DistanceMatrix → ℕ → ℕ → Float
get m from to = cell m.distances m.size from to

-- DistanceMatrix::travel_time: "without times, travel time is distance"
abbrev pub travel_time : DistanceMatrix → ℕ → ℕ → Float
travel_time m from to = cond (eqb (length m.times) 0) (get m from to) (cell m.times m.size from to)

-- `fold(0.0, f64::max)`
unfoldable pub largest : List Float → Float
largest xs = foldl max 0f xs

-- DistanceMatrix::scale: the largest distance
abbrev pub scale : DistanceMatrix → Float
scale m = largest m.distances
