-- Laws of the questions in code.
-- refused and answered questions
pub mod QuestionLaws
