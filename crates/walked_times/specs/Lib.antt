-- What the contracts of this crate cite.
-- crates below, passed on to those above
pub use Rattle.latest_times.specs.laws as laws
pub use Rattle.latest_times.specs.models as models
pub use Rattle.latest_times.specs.evaluation as evaluation
pub use Rattle.latest_times.specs.plan as plan
pub use Rattle.latest_times.specs.route_order as route_order
pub use Rattle.latest_times.specs.route_cost as route_cost
pub use Rattle.latest_times.specs.route_load as route_load
pub use Rattle.latest_times.specs.local_search as local_search
pub use Rattle.latest_times.specs.quick_test as quick_test
-- and their laws
pub use Rattle.latest_times.specs.PlanExchanges as PlanExchanges
pub use Rattle.latest_times.specs.RouteCostVisitLaws as RouteCostVisitLaws
pub use Rattle.latest_times.specs.RouteLoadFeasibleLaws as RouteLoadFeasibleLaws
pub use Rattle.latest_times.specs.LocalSearchNextLaws as LocalSearchNextLaws
pub use Rattle.latest_times.specs.LocalSearchReadLaws as LocalSearchReadLaws
pub use Rattle.latest_times.specs.LocalSearchSearchLaws as LocalSearchSearchLaws
