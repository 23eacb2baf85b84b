-- What the contracts of this crate cite.
-- crates below, passed on to those above
pub use Rattle.problem_checks.specs.laws as laws
pub use Rattle.problem_checks.specs.models as models
-- and their laws
pub use Rattle.problem_checks.specs.ModelsValidLaws as ModelsValidLaws
