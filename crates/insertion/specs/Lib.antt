-- The cheapest place for a stop. A file uses only files above it in this list.
-- the search over routes and positions
pub mod Cheapest
-- the tests of a position, the load aside
pub mod Pass
-- what it finds lies in the plan and is feasible
pub mod Inserted
-- crates below, passed on to those above
pub use Rattle.route_times.specs.laws as laws
pub use Rattle.route_times.specs.models as models
pub use Rattle.route_times.specs.evaluation as evaluation
pub use Rattle.route_times.specs.plan as plan
pub use Rattle.route_times.specs.route_order as route_order
pub use Rattle.route_times.specs.route_cost as route_cost
pub use Rattle.route_times.specs.route_load as route_load
pub use Rattle.route_times.specs.local_search as local_search
pub use Rattle.route_times.specs.quick_test as quick_test
pub use Rattle.route_times.specs as route_times
-- and their laws
pub use Rattle.route_times.specs.PlanExchanges as PlanExchanges
pub use Rattle.route_times.specs.RouteCostVisitLaws as RouteCostVisitLaws
pub use Rattle.route_times.specs.RouteLoadFeasibleLaws as RouteLoadFeasibleLaws
pub use Rattle.route_times.specs.LocalSearchNextLaws as LocalSearchNextLaws
pub use Rattle.route_times.specs.LocalSearchReadLaws as LocalSearchReadLaws
pub use Rattle.route_times.specs.LocalSearchSearchLaws as LocalSearchSearchLaws
