-- Answers as they are stored.
-- an answer, and whether two are the same
pub mod Answers
-- crates below, passed on to those above
pub use Rattle.planner_questions.specs.laws as laws
pub use Rattle.planner_questions.specs.planner as planner
pub use Rattle.stored_values.specs as stored_values
