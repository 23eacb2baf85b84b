-- What the contracts of this crate cite.
-- crates below, passed on to those above
pub use Rattle.route_saving.specs.evaluation as evaluation
pub use Rattle.route_saving.specs.models as models
pub use Rattle.plan_copy.specs.plan as plan
pub use Rattle.route_saving.specs.route_order as route_order
pub use Rattle.route_saving.specs.route_cost as route_cost
pub use Rattle.route_saving.specs.local_search as local_search
pub use Rattle.route_saving.specs.elimination_moves as elimination_moves
pub use Rattle.route_saving.specs.emptied_route as emptied_route
-- and their laws
pub use Rattle.route_saving.specs.LocalSearchNextLaws as LocalSearchNextLaws
pub use Rattle.route_saving.specs.LocalSearchRoundLaws as LocalSearchRoundLaws
pub use Rattle.route_saving.specs.LocalSearchSearchLaws as LocalSearchSearchLaws
