-- What the contracts of this crate cite.
-- crates below, passed on to those above
pub use Rattle.c_evaluations.specs.c_fits as c_fits
pub use Rattle.c_evaluations.specs.c_values as c_values
-- and their laws
pub use Rattle.c_evaluations.specs.CValuesAnswerLaws as CValuesAnswerLaws
