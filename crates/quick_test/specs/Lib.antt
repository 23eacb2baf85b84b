-- What the contracts of this crate cite. A file uses only files above it in this list.
-- the quick test: departures, latest arrivals, whether a stop may go in between
pub mod Quick
-- its parts, a definition for each smaller function
pub mod Parts
-- crates below, passed on to those above
pub use Rattle.insertion_cost.specs.laws as laws
pub use Rattle.insertion_cost.specs.floats as floats
pub use Rattle.insertion_cost.specs.models as models
pub use Rattle.insertion_cost.specs.distance as distance
pub use Rattle.insertion_cost.specs.evaluation as evaluation
pub use Rattle.insertion_cost.specs.plan as plan
pub use Rattle.insertion_cost.specs.route_order as route_order
pub use Rattle.insertion_cost.specs.route_cost as route_cost
pub use Rattle.insertion_cost.specs.route_load as route_load
pub use Rattle.insertion_cost.specs.local_search as local_search
-- and their laws
pub use Rattle.insertion_cost.specs.BreakClockStopLaws as BreakClockStopLaws
pub use Rattle.insertion_cost.specs.PlanExchanges as PlanExchanges
pub use Rattle.insertion_cost.specs.RouteCostVisitLaws as RouteCostVisitLaws
pub use Rattle.insertion_cost.specs.RouteLoadFeasibleLaws as RouteLoadFeasibleLaws
pub use Rattle.insertion_cost.specs.LocalSearchNextLaws as LocalSearchNextLaws
pub use Rattle.insertion_cost.specs.LocalSearchReadLaws as LocalSearchReadLaws
pub use Rattle.insertion_cost.specs.LocalSearchSearchLaws as LocalSearchSearchLaws
