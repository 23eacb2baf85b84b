-- Laws that this crate's proofs cite.
-- what an attempt asks for
pub mod SearchLaws
