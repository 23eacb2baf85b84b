-- What the contracts of this crate cite.
-- crates below, passed on to those above
pub use Rattle.pool_turns.specs as pool_turns
