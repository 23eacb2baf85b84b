-- crates below, passed on to those above
pub use Rattle.sheet_squares.specs.sheet_reader as sheet_reader
