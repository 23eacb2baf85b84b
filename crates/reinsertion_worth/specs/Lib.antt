-- What a route is worth.
-- the worth of a route and of an insertion
pub mod Worth
-- crates below, passed on to those above
pub use Rattle.route_worth.specs.evaluation as evaluation
pub use Rattle.route_worth.specs.laws as laws
pub use Rattle.route_worth.specs.floats as floats
pub use Rattle.route_worth.specs.models as models
pub use Rattle.insertion_cost.specs.plan as plan
pub use Rattle.insertion_cost.specs.route_order as route_order
pub use Rattle.insertion_cost.specs.route_cost as route_cost
pub use Rattle.insertion_cost.specs.route_load as route_load
pub use Rattle.insertion_cost.specs.local_search as local_search
-- and their laws
pub use Rattle.insertion_cost.specs.RouteLoadFeasibleLaws as RouteLoadFeasibleLaws
pub use Rattle.insertion_cost.specs.LocalSearchNextLaws as LocalSearchNextLaws
pub use Rattle.insertion_cost.specs.LocalSearchReadLaws as LocalSearchReadLaws
pub use Rattle.insertion_cost.specs.LocalSearchRoundLaws as LocalSearchRoundLaws
pub use Rattle.insertion_cost.specs.LocalSearchSearchLaws as LocalSearchSearchLaws
