-- What the contracts of this crate cite.
-- crates below, passed on to those above
pub use Rattle.stored_answers.specs as stored_answers
