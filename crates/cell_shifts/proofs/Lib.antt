-- Laws that this crate's proofs cite.
-- a tail that is shifted, and the cells after a copy within them
pub mod ShiftLaws
