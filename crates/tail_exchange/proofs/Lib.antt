-- Laws that this crate's proofs cite.
-- two tails exchanged
pub mod TailLaws
