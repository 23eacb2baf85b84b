-- The attempt at a route (route_minimization.rs, the body of the round in `minimize_routes`). Assumes nothing.
use Rattle.std.specs.Prelude.{ℕ, Float}
use Rattle.std.specs.Prelude.{Option}
use Rattle.std.specs.Float.Ieee.{lt}
use Rattle.plan_cost.specs.floats.Binary64.{◌⊖◌, ◌⊗◌, 1e-12, abs}
use Rattle.plan_cost.specs.laws.Edits.{erase}
use Rattle.plan_cost.specs.models.Problem.{Problem}
use Rattle.plan_cost.specs.plan.Plan.{Plan, route}
use Rattle.ejection_pool.specs.local_search.Options.{bind, then_some}
use Rattle.plan_cost.specs.route_cost.Route.{cost}
use Rattle.ejection_pool.specs.local_search.declared.rounds.Counts.{Counts}
use Rattle.ejection_pool.specs.local_search.Rounds.{Tried}
use Rattle.ejection_pool.specs.Pool.{Allowance, empty_into}

-- "Accept if cost(rest) < before − 1e-12 × |before|"
unfoldable pub if_cheaper : Problem → Float → Plan → Option Plan
if_cheaper p before rest = then_some (lt (cost p rest) (before ⊖ 1e-12 ⊗ abs before)) rest

-- the body of `for r in order`: "try to empty each into the others"
unfoldable pub attempt : Allowance → Problem → Plan → ℕ → Counts → Tried
attempt given p routes r n =
    let t = empty_into given p (erase r routes) (route r routes) n in
    record { plan = bind t.plan (if_cheaper p (cost p routes)); counts = t.counts }
