-- The turns of the pool.
-- how an attempt ends
pub mod Ends
-- crates below, passed on to those above
pub use Rattle.pool_turn.specs.evaluation as evaluation
pub use Rattle.pool_turn.specs.models as models
pub use Rattle.pool_turn.specs.plan as plan
pub use Rattle.pool_turn.specs.local_search as local_search
pub use Rattle.pool_turn.specs.ejection_made as ejection_made
pub use Rattle.pool_turn.specs.ejection_pool as ejection_pool
