-- What the code says of the attempt at a route.
-- what it answers
pub mod Judged
-- crates below, passed on to those above
pub use Rattle.pool_cost.specs.models as models
pub use Rattle.pool_cost.specs.evaluation as evaluation
pub use Rattle.pool_cost.specs.route_cost as route_cost
pub use Rattle.pool_cost.specs.local_search as local_search
pub use Rattle.pool_cost.specs.ejection_made as ejection_made
pub use Rattle.pool_cost.specs.ejection_pool as ejection_pool
pub use Rattle.pool_cost.specs as pool_cost
