-- What the contracts of this crate cite.
-- crates below, passed on to those above
pub use Rattle.planner_questions.specs.laws as laws
pub use Rattle.planner_questions.specs.models as models
pub use Rattle.planner_questions.specs.ejection_pool as ejection_pool
pub use Rattle.planner_questions.specs.planner as planner
