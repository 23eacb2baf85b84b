-- What the contracts of this crate cite.
-- crates below, passed on to those above
pub use Rattle.minimization_search.specs.laws as laws
pub use Rattle.minimization_search.specs.models as models
pub use Rattle.minimization_search.specs.plan as plan
pub use Rattle.minimization_search.specs.local_search as local_search
pub use Rattle.minimization_search.specs.ejection_pool as ejection_pool
pub use Rattle.minimization_search.specs.minimization as minimization
pub use Rattle.minimization_search.specs as minimization_search
