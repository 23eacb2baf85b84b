-- What the contracts of this crate cite.
-- crates below, passed on to those above
pub use Rattle.minimization.specs.laws as laws
pub use Rattle.minimization.specs.models as models
pub use Rattle.minimization.specs.evaluation as evaluation
pub use Rattle.minimization.specs.plan as plan
pub use Rattle.minimization.specs.route_order as route_order
pub use Rattle.minimization.specs.route_cost as route_cost
pub use Rattle.minimization.specs.local_search as local_search
pub use Rattle.minimization.specs.ejection_pool as ejection_pool
pub use Rattle.minimization.specs.pool_cost as pool_cost
pub use Rattle.minimization.specs as minimization
pub use Rattle.route_attempt.specs.route_without as route_without
-- and their laws
pub use Rattle.minimization.specs.LocalSearchSearchLaws as LocalSearchSearchLaws
