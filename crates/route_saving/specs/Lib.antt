-- What the contracts of this crate cite.
-- crates below, passed on to those above
pub use Rattle.emptied_route.specs.evaluation as evaluation
pub use Rattle.emptied_route.specs.floats as floats
pub use Rattle.emptied_route.specs.models as models
pub use Rattle.emptied_route.specs.route_order as route_order
pub use Rattle.emptied_route.specs.route_cost as route_cost
pub use Rattle.emptied_route.specs.local_search as local_search
pub use Rattle.emptied_route.specs.reinsertion_worth as reinsertion_worth
pub use Rattle.emptied_route.specs.elimination_moves as elimination_moves
pub use Rattle.emptied_route.specs as emptied_route
-- and their laws
pub use Rattle.emptied_route.specs.LocalSearchNextLaws as LocalSearchNextLaws
pub use Rattle.emptied_route.specs.LocalSearchRoundLaws as LocalSearchRoundLaws
pub use Rattle.emptied_route.specs.LocalSearchSearchLaws as LocalSearchSearchLaws
