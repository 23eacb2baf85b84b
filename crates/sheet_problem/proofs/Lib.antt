-- the sections of the problem, one after the other
pub mod ProblemLaws
