-- What the contracts of this crate cite.
-- crates below, passed on to those above
pub use Rattle.ejection_made.specs.ejection as ejection
pub use Rattle.ejection_made.specs as ejection_made
pub use Rattle.random_moves.specs.perturbation as perturbation
