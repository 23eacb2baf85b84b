-- Laws of the questions about a problem.
-- refused and answered questions
pub mod ProblemLaws
