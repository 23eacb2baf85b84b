-- The ejection. A file uses only files above it in this list.
-- one stop ejected, else two
pub mod Eject
-- what the functions ask for
pub mod Asked
-- what it finds lies in the plan and is feasible, and no stop is lost
pub mod Ejected
-- crates below, passed on to those above
pub use Rattle.insertion.specs.laws as laws
pub use Rattle.insertion.specs.models as models
pub use Rattle.insertion.specs.evaluation as evaluation
pub use Rattle.insertion.specs.plan as plan
pub use Rattle.insertion.specs.route_order as route_order
pub use Rattle.insertion.specs.route_cost as route_cost
pub use Rattle.insertion.specs.route_load as route_load
pub use Rattle.insertion.specs.local_search as local_search
pub use Rattle.insertion.specs.quick_test as quick_test
pub use Rattle.insertion.specs.route_times as route_times
pub use Rattle.insertion.specs as insertion
-- and their laws
pub use Rattle.insertion.specs.PlanExchanges as PlanExchanges
pub use Rattle.insertion.specs.RouteCostVisitLaws as RouteCostVisitLaws
pub use Rattle.insertion.specs.RouteLoadFeasibleLaws as RouteLoadFeasibleLaws
pub use Rattle.insertion.specs.LocalSearchNextLaws as LocalSearchNextLaws
pub use Rattle.insertion.specs.LocalSearchReadLaws as LocalSearchReadLaws
pub use Rattle.insertion.specs.LocalSearchSearchLaws as LocalSearchSearchLaws
