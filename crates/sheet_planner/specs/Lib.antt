-- a text in the slice that is lent
pub mod Output
-- crates below, passed on to those above
pub use Rattle.sheet_listing.specs.sheet_answers as sheet_answers
