-- What the contracts of this crate cite.
-- crates below, passed on to those above
pub use Rattle.quick_test.specs.laws as laws
pub use Rattle.quick_test.specs.floats as floats
pub use Rattle.quick_test.specs.models as models
pub use Rattle.quick_test.specs.evaluation as evaluation
pub use Rattle.quick_test.specs.plan as plan
pub use Rattle.quick_test.specs.route_order as route_order
pub use Rattle.quick_test.specs.route_cost as route_cost
pub use Rattle.quick_test.specs.route_load as route_load
pub use Rattle.quick_test.specs.local_search as local_search
pub use Rattle.quick_test.specs as quick_test
-- and their laws
pub use Rattle.quick_test.specs.BreakClockStopLaws as BreakClockStopLaws
pub use Rattle.quick_test.specs.PlanExchanges as PlanExchanges
pub use Rattle.quick_test.specs.RouteCostVisitLaws as RouteCostVisitLaws
pub use Rattle.quick_test.specs.RouteLoadFeasibleLaws as RouteLoadFeasibleLaws
pub use Rattle.quick_test.specs.LocalSearchNextLaws as LocalSearchNextLaws
pub use Rattle.quick_test.specs.LocalSearchReadLaws as LocalSearchReadLaws
pub use Rattle.quick_test.specs.LocalSearchSearchLaws as LocalSearchSearchLaws
pub use Rattle.quick_test.proofs.ArrivalLaws as QuickTestArrivalLaws
