-- What the replay counts.
-- the counts
pub mod Tally
-- what they print
pub mod Printed
-- crates below, passed on to those above
pub use Rattle.stored_values.specs as stored_values
