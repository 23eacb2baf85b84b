-- The attempt at a route, as the code makes it.
-- what it asks for
pub mod Attempting
-- crates below, passed on to those above
pub use Rattle.pool_attempt.specs.evaluation as evaluation
pub use Rattle.pool_attempt.specs.models as models
pub use Rattle.pool_attempt.specs.route_cost as route_cost
pub use Rattle.pool_attempt.specs.local_search as local_search
pub use Rattle.pool_attempt.specs.ejection_pool as ejection_pool
pub use Rattle.pool_attempt.specs.pool_cost as pool_cost
pub use Rattle.pool_attempt.specs as pool_attempt
