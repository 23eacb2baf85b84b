-- The definitions of route minimisation and those below, opened at once. Assumes nothing.
use Rattle.pool_cost.specs.ejection_pool.Opened.{opened as pool}
use Rattle.pool_cost.specs.Attempt.{if_cheaper, attempt}
use Rattle.minimization.specs.Minimize.{minimize_routes}

-- Every definition, for a theorem that is computed: `unfolding opened`.
unfoldable pub opened : Unit {0}
unfolding if_cheaper attempt minimize_routes pool
opened = tt
