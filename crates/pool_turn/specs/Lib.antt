-- What the contracts of this crate cite.
-- crates below, passed on to those above
pub use Rattle.forced_insertion.specs.evaluation as evaluation
pub use Rattle.forced_insertion.specs.models as models
pub use Rattle.forced_insertion.specs.plan as plan
pub use Rattle.forced_insertion.specs.local_search as local_search
pub use Rattle.forced_insertion.specs.insertion as insertion
pub use Rattle.forced_insertion.specs.ejection_made as ejection_made
pub use Rattle.forced_insertion.specs.ejection_pool as ejection_pool
pub use Rattle.forced_insertion.specs as forced_insertion
-- and their laws
pub use Rattle.forced_insertion.specs.EjectionPoolPooledLaws as EjectionPoolPooledLaws
pub use Rattle.forced_insertion.specs.EjectionPoolTurns as EjectionPoolTurns
