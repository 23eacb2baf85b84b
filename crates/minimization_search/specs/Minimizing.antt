-- What the search asks for. Assumes nothing.
use Rattle.std.specs.Prelude.{ℕ, ◌≤◌, ◌≡◌, List, length}
use Rattle.minimization_round.specs.models.Problem.{Problem}
use Rattle.minimization_round.specs.plan.Plan.{split, total}
use Rattle.minimization_round.specs.local_search.Planned.{Planned}

-- a search over a plan that fills both slices
pub record Searching (p : Problem) (limit : ℕ) (lengths stops : List ℕ) : Type 0 where
  pub limited : limit ≤ 65535
  pub whole : total lengths ≡ length stops
  pub few : length stops ≤ 255
  pub routes_few : length lengths ≤ 256
  pub planned : Planned p.roads.size (split lengths stops)
