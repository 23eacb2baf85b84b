-- Lists of calls in code.
-- what is promised of a run
pub mod Lists
-- crates below, passed on to those above
pub use Rattle.recorded_call.specs.call_words as call_words
