-- Laws that this crate's proofs cite.
-- what the call answers
pub mod MinimizeLaws
