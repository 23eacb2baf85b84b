-- Row 6 in code: the stops so far, marked in a cell for each place. Assumes nothing.
use Rattle.std.specs.Prelude.{ℕ, ◌<◌, ◌≡◌, List, Bool, false, length, get_or, eqb}
use Rattle.length_checks.specs.laws.Searches.{any}

-- 256 cells, each of a number below 256: whether it is one of the stops
pub record Marks (seen : List Bool) (stops : List ℕ) : Type 0 where
  pub cells : length seen ≡ 256
  pub each : (x : ℕ) → x < 256 → get_or seen x false ≡ any (eqb x) stops
