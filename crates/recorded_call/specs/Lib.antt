-- One call of a list.
-- one call, run and recorded
pub mod Recording
-- crates below, passed on to those above
pub use Rattle.call_history.specs.laws as laws
pub use Rattle.call_history.specs.models as models
pub use Rattle.call_history.specs.plan as plan
pub use Rattle.call_history.specs.local_search as local_search
pub use Rattle.call_history.specs.entry as entry
pub use Rattle.call_history.specs.planner as planner
pub use Rattle.call_history.specs.call_words as call_words
-- and their laws
pub use Rattle.call_history.specs.PlannerDemand3 as PlannerDemand3
pub use Rattle.call_history.specs.CallWordsFormLaws as CallWordsFormLaws
