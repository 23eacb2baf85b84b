-- What the contracts of this crate cite.
-- schedule.rs: labels, one stop
pub mod Labels
-- crates below, passed on to those above
pub use Rattle.distance.specs.laws as laws
pub use Rattle.distance.specs.floats as floats
pub use Rattle.distance.specs.models as models
pub use Rattle.distance.specs as distance
-- and their laws
pub use Rattle.distance.specs.ModelsValidLaws as ModelsValidLaws
