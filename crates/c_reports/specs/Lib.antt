-- What C is told.
-- of a list of calls and of a sheet
pub mod Reports
-- crates below, passed on to those above
pub use Rattle.call_lists.specs.call_words as call_words
pub use Rattle.call_lists.specs as call_lists
pub use Rattle.sheet_planner.specs.sheet_answers as sheet_answers
pub use Rattle.sheet_planner.specs as sheet_planner
