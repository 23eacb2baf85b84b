-- What the contracts of this crate cite.
-- crates below, passed on to those above
pub use Rattle.models.specs.laws as laws
pub use Rattle.models.specs as models
-- and their laws
pub use Rattle.models.proofs.ValidLaws as ModelsValidLaws
