-- What an attempt asks and leaves.
pub mod Attempts
-- crates below, passed on to those above
pub use Rattle.moved_stops.specs.evaluation as evaluation
pub use Rattle.moved_stops.specs.floats as floats
pub use Rattle.moved_stops.specs.models as models
pub use Rattle.route_removal.specs.plan as plan
pub use Rattle.moved_stops.specs.route_order as route_order
pub use Rattle.moved_stops.specs.route_cost as route_cost
pub use Rattle.moved_stops.specs.local_search as local_search
pub use Rattle.moved_stops.specs.reinsertion_worth as reinsertion_worth
pub use Rattle.moved_stops.specs.elimination_moves as elimination_moves
-- and their laws
pub use Rattle.moved_stops.specs.LocalSearchNextLaws as LocalSearchNextLaws
pub use Rattle.moved_stops.specs.LocalSearchRoundLaws as LocalSearchRoundLaws
pub use Rattle.moved_stops.specs.LocalSearchSearchLaws as LocalSearchSearchLaws
