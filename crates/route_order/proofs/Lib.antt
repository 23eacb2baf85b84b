-- Laws that this crate's proofs cite.
-- picks in the order by length
pub mod OrderLaws
