-- What the search asks for. Assumes nothing.
use Rattle.std.specs.Prelude.{ℕ, ◌≤◌, ◌≡◌, List, length}
use Rattle.elimination_attempt.specs.models.Problem.{Problem}
use Rattle.elimination_attempt.specs.plan.Plan.{total}
use Rattle.elimination_attempt.specs.plan.Given.{plan_of}
use Rattle.elimination_attempt.specs.plan.declared.routes.Routes.{Routes}
use Rattle.elimination_attempt.specs.local_search.Planned.{Planned}

-- a search, or an attempt of it, over a plan that fills both slices; the work cells have room for both
pub record Eliminating (p : Problem) (lent : Routes) (work : List ℕ) : Type 0 where
  pub whole : total lent.lengths.now ≡ length lent.stops.now
  pub few : length lent.stops.now ≤ 255
  pub routes_few : length lent.lengths.now ≤ 256
  pub planned : Planned p.roads.size (plan_of lent)
  pub work_room : 511 ≤ length work
