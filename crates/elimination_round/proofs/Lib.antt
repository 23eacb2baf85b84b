-- Laws that this crate's proofs cite.
-- the next attempt of a round
pub mod NextLaws
