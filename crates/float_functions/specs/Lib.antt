-- What the contracts of this crate cite.
-- crates below, passed on to those above
pub use Rattle.floats.specs.laws as laws
pub use Rattle.floats.specs as floats
