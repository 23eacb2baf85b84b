-- Laws of an attempt, as the code meets it.
pub mod AttemptLaws
