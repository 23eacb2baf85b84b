-- Laws that this crate's proofs cite.
-- a move between two routes that are drawn
pub mod MoveLaws
-- the loop over the moves
pub mod PerturbLaws
