-- What the contracts of this crate cite.
-- crates below, passed on to those above
pub use Rattle.quick_fit.specs.laws as laws
pub use Rattle.quick_fit.specs.floats as floats
pub use Rattle.quick_fit.specs.models as models
pub use Rattle.quick_fit.specs.evaluation as evaluation
pub use Rattle.quick_fit.specs.plan as plan
pub use Rattle.quick_fit.specs.route_order as route_order
pub use Rattle.quick_fit.specs.route_cost as route_cost
pub use Rattle.quick_fit.specs.route_load as route_load
pub use Rattle.quick_fit.specs.local_search as local_search
pub use Rattle.quick_fit.specs.quick_test as quick_test
-- and their laws
pub use Rattle.quick_fit.specs.BreakClockStopLaws as BreakClockStopLaws
pub use Rattle.quick_fit.specs.PlanExchanges as PlanExchanges
pub use Rattle.quick_fit.specs.RouteCostVisitLaws as RouteCostVisitLaws
pub use Rattle.quick_fit.specs.RouteLoadFeasibleLaws as RouteLoadFeasibleLaws
pub use Rattle.quick_fit.specs.LocalSearchNextLaws as LocalSearchNextLaws
pub use Rattle.quick_fit.specs.LocalSearchReadLaws as LocalSearchReadLaws
pub use Rattle.quick_fit.specs.LocalSearchSearchLaws as LocalSearchSearchLaws
