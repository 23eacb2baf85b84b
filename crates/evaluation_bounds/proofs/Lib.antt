-- Theorems about the definitions of `evaluation` and `lateness_bound`.
-- the numbers of an evaluation are finite, and their bounds
pub mod Bounds
