-- Laws that this crate's proofs cite.
-- cells that are copied
pub mod CellLaws
