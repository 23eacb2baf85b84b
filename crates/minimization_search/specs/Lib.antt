-- What the search asks for.
pub mod Minimizing
-- crates below, passed on to those above
pub use Rattle.minimization_round.specs.laws as laws
pub use Rattle.minimization_round.specs.models as models
pub use Rattle.minimization_round.specs.evaluation as evaluation
pub use Rattle.minimization_round.specs.plan as plan
pub use Rattle.minimization_round.specs.local_search as local_search
pub use Rattle.minimization_round.specs.ejection_pool as ejection_pool
pub use Rattle.minimization_round.specs.pool_cost as pool_cost
pub use Rattle.minimization_round.specs.minimization as minimization
