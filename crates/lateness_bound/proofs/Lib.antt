-- Laws of this crate's definitions.
-- specs/Bound, as the code of `bound` meets it
pub mod BoundLaws
