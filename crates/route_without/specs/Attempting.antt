-- What an attempt asks for, as the code makes it. Assumes nothing.
use Rattle.std.specs.Prelude.{ℕ, ◌+◌, ◌*◌, ◌≤◌, ◌<◌, ◌≡◌, length}
use Rattle.pool_attempt.specs.models.Problem.{Problem}
use Rattle.route_removal.specs.plan.Plan.{total}
use Rattle.route_removal.specs.plan.Given.{plan_of}
use Rattle.route_removal.specs.plan.declared.routes.Routes.{Routes}
use Rattle.pool_attempt.specs.local_search.declared.rounds.Counts.{Counts}
use Rattle.pool_attempt.specs.local_search.Planned.{Planned}

-- an attempt at a route of a plan that fills both slices
pub record Attempting (p : Problem) (limit : ℕ) (routes : Routes) (counts : Counts) : Type 0 where
  pub whole : total routes.lengths.now ≡ length routes.stops.now
  pub few : length routes.stops.now ≤ 255
  pub planned : Planned p.roads.size (plan_of routes)
  pub limited : limit ≤ 65535
  pub drawn : counts.draws + 500 * limit < 9_000_000_000_000_000_000
