-- what is read of a run
pub mod Run
