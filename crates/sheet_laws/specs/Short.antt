-- Distances as a sheet has them. Assumes nothing.
use Rattle.std.specs.Prelude.{ℕ, ◌*◌, ◌≤◌, ◌≡◌, List, map, length, Float}
use Rattle.entry.specs.floats.Whole.{nat}
use Rattle.entry.specs.laws.All.{All}

-- n rows of n whole numbers: "numbers are 1 to 9 digits"
pub record Short (n : ℕ) (distances : List Float) : Type 0 where
  pub cells : List ℕ
  pub are : distances ≡ map nat cells
  pub size : length cells ≡ n * n
  pub small : All (λ v. v ≤ 999_999_999) cells
