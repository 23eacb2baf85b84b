-- What the contracts of this crate cite.
-- crates below, passed on to those above
pub use Rattle.local_search.specs.laws as laws
pub use Rattle.local_search.specs.floats as floats
pub use Rattle.local_search.specs.models as models
pub use Rattle.local_search.specs.distance as distance
pub use Rattle.local_search.specs.evaluation as evaluation
pub use Rattle.local_search.specs.plan as plan
pub use Rattle.local_search.specs.route_order as route_order
pub use Rattle.local_search.specs.route_cost as route_cost
pub use Rattle.local_search.specs.route_load as route_load
pub use Rattle.local_search.specs as local_search
-- and their laws
pub use Rattle.local_search.specs.BreakClockStopLaws as BreakClockStopLaws
pub use Rattle.local_search.specs.PlanExchanges as PlanExchanges
pub use Rattle.local_search.specs.RouteCostVisitLaws as RouteCostVisitLaws
pub use Rattle.local_search.specs.RouteLoadFeasibleLaws as RouteLoadFeasibleLaws
pub use Rattle.local_search.proofs.NextLaws as LocalSearchNextLaws
pub use Rattle.local_search.proofs.ReadLaws as LocalSearchReadLaws
pub use Rattle.local_search.proofs.RoundLaws as LocalSearchRoundLaws
pub use Rattle.local_search.proofs.SearchLaws as LocalSearchSearchLaws
