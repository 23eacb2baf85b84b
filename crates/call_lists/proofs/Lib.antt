-- Laws of lists of calls in code.
-- the run of a list
pub mod RunLaws
