-- Laws of this crate's definitions, as the code meets them.
-- the stops that are moved, the largest demand first
pub mod LargestLaws
