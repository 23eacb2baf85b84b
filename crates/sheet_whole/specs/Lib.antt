-- the last three sections
pub mod Request
-- what the answer of the code means
pub mod Whole
-- crates below, passed on to those above
pub use Rattle.sheet_draws.specs.sheet_reader as sheet_reader
-- and their laws
pub use Rattle.sheet_problem.proofs.ProblemLaws as SheetProblemProblemLaws
