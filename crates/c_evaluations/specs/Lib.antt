-- What the contracts of this crate cite.
-- crates below, passed on to those above
pub use Rattle.planner_questions.specs.planner as planner
pub use Rattle.planner_questions.specs as planner_questions
pub use Rattle.c_values.specs.c_fits as c_fits
pub use Rattle.c_values.specs as c_values
-- and their laws
pub use Rattle.c_values.proofs.AnswerLaws as CValuesAnswerLaws
