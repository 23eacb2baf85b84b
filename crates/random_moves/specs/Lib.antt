-- What the contracts of this crate cite.
-- crates below, passed on to those above
pub use Rattle.pair_move.specs.perturbation as perturbation
-- and their laws
pub use Rattle.pair_move.specs.PerturbationMoveDraws as PerturbationMoveDraws
