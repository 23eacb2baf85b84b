-- The positions of what is kept.
-- the parts of the search over them, a definition for each smaller function
pub mod Pass
-- crates below, passed on to those above
pub use Rattle.ejection.specs.laws as laws
pub use Rattle.ejection.specs.models as models
pub use Rattle.ejection.specs.evaluation as evaluation
pub use Rattle.ejection.specs.plan as plan
pub use Rattle.ejection.specs.route_load as route_load
pub use Rattle.ejection.specs.local_search as local_search
pub use Rattle.ejection.specs as ejection
-- and their laws
pub use Rattle.ejection.specs.PlanExchanges as PlanExchanges
pub use Rattle.ejection.specs.RouteCostVisitLaws as RouteCostVisitLaws
pub use Rattle.ejection.specs.RouteLoadFeasibleLaws as RouteLoadFeasibleLaws
