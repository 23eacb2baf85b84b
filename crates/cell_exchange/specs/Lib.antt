-- What the contracts of this crate cite.
-- crates below, passed on to those above
pub use Rattle.cell_shifts.specs.laws as laws
pub use Rattle.cell_shifts.specs.Parts as Parts
