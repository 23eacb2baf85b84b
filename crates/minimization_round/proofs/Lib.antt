-- Laws that this crate's proofs cite.
-- the start of a round, and the next attempt of it
pub mod NextLaws
