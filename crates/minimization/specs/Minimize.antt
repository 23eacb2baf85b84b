-- The search (route_minimization.rs, `minimize_routes`). Assumes nothing.
use Rattle.std.specs.Prelude.{cond}
use Rattle.pool_cost.specs.models.Problem.{Problem}
use Rattle.pool_cost.specs.evaluation.Check.{has_soft_windows}
use Rattle.pool_cost.specs.plan.Plan.{Plan}
use Rattle.pool_cost.specs.local_search.Rounds.{Result, reduce}
use Rattle.pool_cost.specs.ejection_pool.Pool.{Allowance}
use Rattle.pool_cost.specs.Attempt.{attempt}

-- `minimize_routes`: "If any place, the depot included, has window and penalty, the plan comes back as given, empty routes too, counts 0."
unfoldable pub minimize_routes : Allowance → Problem → Plan → Result
minimize_routes given p plan =
    cond (has_soft_windows p.places.flags) (record { plan = plan; counts = record { steps = 0; draws = 0 } }) (reduce (attempt given p) plan)
