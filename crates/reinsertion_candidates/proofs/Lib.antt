-- Laws of this crate's definitions, as the code meets them.
-- the pass over routes and positions finds the first candidate in sorted order that passes
pub mod PlaceIs
