-- Laws that this crate's proofs cite.
-- how much a move draws
pub mod MoveDraws
