-- What the functions' proofs lean on.
-- the positions of what is kept
pub mod PositionLaws
