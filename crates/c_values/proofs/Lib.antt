-- Laws of this crate's definitions.
-- answers in slices
pub mod AnswerLaws
