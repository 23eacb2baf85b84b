-- Laws that this crate's proofs cite.
-- a move as it is drawn
pub mod DrawnLaws
