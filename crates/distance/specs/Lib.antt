-- What the contracts of this crate cite.
pub mod Matrix
-- the loop over a list of numbers, as far as it has come
pub mod Seen
-- crates below, passed on to those above
pub use Rattle.place_record.specs.laws as laws
pub use Rattle.place_record.specs.floats as floats
pub use Rattle.place_record.specs.models as models
-- and their laws
pub use Rattle.place_record.specs.ModelsValidLaws as ModelsValidLaws
