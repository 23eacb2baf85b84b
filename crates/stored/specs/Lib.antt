-- What the numbers of a text stand for.
-- the values of numbers, by their types
pub mod Cells
-- crates below, passed on to those above
pub use Rattle.stored_values.specs as stored_values
