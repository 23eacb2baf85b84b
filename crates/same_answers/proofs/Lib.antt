-- Laws that this crate's proofs cite.
-- slices compared
pub mod CellLaws
