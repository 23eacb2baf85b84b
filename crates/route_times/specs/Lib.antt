-- What the contracts of this crate cite, beside the definitions of the quick test.
-- departures and latest arrivals in work cells
pub mod Prepared
-- crates below, passed on to those above
pub use Rattle.walked_times.specs.laws as laws
pub use Rattle.walked_times.specs.models as models
pub use Rattle.walked_times.specs.evaluation as evaluation
pub use Rattle.walked_times.specs.plan as plan
pub use Rattle.walked_times.specs.route_order as route_order
pub use Rattle.walked_times.specs.route_cost as route_cost
pub use Rattle.walked_times.specs.route_load as route_load
pub use Rattle.walked_times.specs.local_search as local_search
pub use Rattle.walked_times.specs.quick_test as quick_test
-- and their laws
pub use Rattle.walked_times.specs.PlanExchanges as PlanExchanges
pub use Rattle.walked_times.specs.RouteCostVisitLaws as RouteCostVisitLaws
pub use Rattle.walked_times.specs.RouteLoadFeasibleLaws as RouteLoadFeasibleLaws
pub use Rattle.walked_times.specs.LocalSearchNextLaws as LocalSearchNextLaws
pub use Rattle.walked_times.specs.LocalSearchReadLaws as LocalSearchReadLaws
pub use Rattle.walked_times.specs.LocalSearchSearchLaws as LocalSearchSearchLaws
