-- What the contracts of this crate cite, and laws for those who call it.
-- cells in use, the first of a lent slice
pub mod Parts
-- crates below, passed on to those above
pub use Rattle.cells.specs.laws as laws
