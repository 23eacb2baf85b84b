-- Laws of this crate's definitions, as the code meets them.
-- the worth of a route and of an insertion
pub mod WorthLaws
