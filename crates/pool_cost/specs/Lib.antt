-- The test of the cost, in the attempt at a route.
-- the attempt
pub mod Attempt
-- crates below, passed on to those above
pub use Rattle.plan_cost.specs.laws as laws
pub use Rattle.plan_cost.specs.floats as floats
pub use Rattle.plan_cost.specs.models as models
pub use Rattle.plan_cost.specs.evaluation as evaluation
pub use Rattle.plan_cost.specs.plan as plan
pub use Rattle.ejection_pool.specs.route_order as route_order
pub use Rattle.plan_cost.specs.route_cost as route_cost
pub use Rattle.ejection_pool.specs.route_load as route_load
pub use Rattle.ejection_pool.specs.local_search as local_search
pub use Rattle.ejection_pool.specs.quick_test as quick_test
pub use Rattle.ejection_pool.specs.ejection_made as ejection_made
pub use Rattle.ejection_pool.specs as ejection_pool
-- and their laws
pub use Rattle.ejection_pool.specs.LocalSearchNextLaws as LocalSearchNextLaws
pub use Rattle.ejection_pool.specs.LocalSearchSearchLaws as LocalSearchSearchLaws
pub use Rattle.ejection_pool.proofs.Placing as EjectionPoolPlacing
pub use Rattle.ejection_pool.proofs.PooledLaws as EjectionPoolPooledLaws
pub use Rattle.ejection_pool.proofs.Turns as EjectionPoolTurns
