-- What the contracts of this crate cite.
-- crates below, passed on to those above
pub use Rattle.ejection_positions.specs.laws as laws
pub use Rattle.ejection_positions.specs.models as models
pub use Rattle.ejection_positions.specs.evaluation as evaluation
pub use Rattle.ejection_positions.specs.plan as plan
pub use Rattle.ejection_positions.specs.route_load as route_load
pub use Rattle.ejection_positions.specs.local_search as local_search
pub use Rattle.ejection_positions.specs.ejection as ejection
-- and their laws
pub use Rattle.ejection_positions.specs.PlanExchanges as PlanExchanges
pub use Rattle.ejection_positions.specs.RouteCostVisitLaws as RouteCostVisitLaws
pub use Rattle.ejection_positions.specs.RouteLoadFeasibleLaws as RouteLoadFeasibleLaws
