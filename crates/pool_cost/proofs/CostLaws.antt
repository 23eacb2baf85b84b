-- The test of the cost. Assumes nothing.
use mathlib.Core.Path.{◌≡◌, refl, ap, ◌∙◌}
use mathlib.Core.Bool.{Bool}
use lib.Ieee.{Float, lt}
use Rattle.plan_cost.specs.floats.Binary64.{◌⊖◌, ◌⊗◌, 1e-12, abs}
use Rattle.plan_cost.specs.models.Problem.{Problem, of_roads}
use Rattle.plan_cost.specs.plan.Plan.{Plan}
use Rattle.ejection_pool.specs.local_search.Options.{then_some}
use Rattle.plan_cost.specs.route_cost.Route.{cost}
use Rattle.ejection_pool.specs.LocalSearchReadLaws.{cost_any}
use Rattle.pool_cost.specs.Attempt.{if_cheaper}

-- the cost reads the roads alone
pub cost_whole : (p : Problem) (plan : Plan) → cost (of_roads p.roads p.vehicle) plan ≡ cost p plan
cost_whole p plan = cost_any p plan _ refl

-- the plan is accepted where the test holds
module _ (p : Problem) (before : Float) (plan : Plan) (v : Bool)
    (c : v ≡ lt (cost (of_roads p.roads p.vehicle) plan) (before ⊖ 1e-12 ⊗ abs before)) where
  tested : v ≡ lt (cost p plan) (before ⊖ 1e-12 ⊗ abs before)
  tested = c ∙ ap (λ (z : Float). lt z (before ⊖ 1e-12 ⊗ abs before)) (cost_whole p plan)

  pub cheaper_tested : then_some v plan ≡ if_cheaper p before plan
  unfolding if_cheaper
  cheaper_tested = ap (λ (b : Bool). then_some b plan) tested
