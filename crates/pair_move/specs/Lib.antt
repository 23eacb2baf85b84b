-- What the contracts of this crate cite.
-- crates below, passed on to those above
pub use Rattle.drawn_moves.specs.laws as laws
pub use Rattle.drawn_moves.specs.models as models
pub use Rattle.drawn_moves.specs.evaluation as evaluation
pub use Rattle.drawn_moves.specs.plan as plan
pub use Rattle.drawn_moves.specs.local_search as local_search
pub use Rattle.drawn_moves.specs.perturbation as perturbation
-- and their laws
pub use Rattle.drawn_moves.specs.PerturbationMoveDraws as PerturbationMoveDraws
