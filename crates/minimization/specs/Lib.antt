-- Route minimisation with an ejection pool. A file uses only files above it in this list.
-- the search
pub mod Minimize
-- what an attempt keeps
pub mod Attempted
-- what the search keeps
pub mod Minimized
-- the cost falls
pub mod Falls
-- every definition, opened for theorems by computation
pub mod Opened
-- two plans reduced by ejections, by computation
pub mod Ejections
-- the definitions computed on small plans
pub mod Examples
-- crates below, passed on to those above
pub use Rattle.pool_cost.specs.laws as laws
pub use Rattle.pool_cost.specs.models as models
pub use Rattle.pool_cost.specs.evaluation as evaluation
pub use Rattle.pool_cost.specs.plan as plan
pub use Rattle.pool_cost.specs.route_order as route_order
pub use Rattle.pool_cost.specs.route_cost as route_cost
pub use Rattle.pool_cost.specs.route_load as route_load
pub use Rattle.pool_cost.specs.local_search as local_search
pub use Rattle.pool_cost.specs.ejection_pool as ejection_pool
pub use Rattle.pool_cost.specs as pool_cost
-- and their laws
pub use Rattle.pool_cost.specs.LocalSearchNextLaws as LocalSearchNextLaws
pub use Rattle.pool_cost.specs.LocalSearchSearchLaws as LocalSearchSearchLaws
pub use Rattle.pool_cost.proofs.CostLaws as PoolCostCostLaws
