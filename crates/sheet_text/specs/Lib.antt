-- reading a text by position: tokens, numbers, words and lines
pub mod Text
-- what the answers of the code mean
pub mod Told
-- crates below, passed on to those above
pub use Rattle.refusal.specs as refusal
