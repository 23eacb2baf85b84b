-- What the contracts of this crate cite.
-- crates below, passed on to those above
pub use Rattle.stop_moves.specs.evaluation as evaluation
pub use Rattle.stop_moves.specs.floats as floats
pub use Rattle.stop_moves.specs.models as models
pub use Rattle.stop_moves.specs.route_order as route_order
pub use Rattle.stop_moves.specs.route_cost as route_cost
pub use Rattle.stop_moves.specs.local_search as local_search
pub use Rattle.stop_moves.specs.reinsertion_worth as reinsertion_worth
pub use Rattle.stop_moves.specs.elimination_moves as elimination_moves
pub use Rattle.stop_moves.specs as stop_moves
-- and their laws
pub use Rattle.stop_moves.specs.LocalSearchNextLaws as LocalSearchNextLaws
pub use Rattle.stop_moves.specs.LocalSearchRoundLaws as LocalSearchRoundLaws
pub use Rattle.stop_moves.specs.LocalSearchSearchLaws as LocalSearchSearchLaws
