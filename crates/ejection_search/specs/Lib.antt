-- The search for the best ejection.
-- one stop or two, by a flag
pub mod Some
-- crates below, passed on to those above
pub use Rattle.route_ejection.specs.laws as laws
pub use Rattle.route_ejection.specs.models as models
pub use Rattle.route_ejection.specs.evaluation as evaluation
pub use Rattle.route_ejection.specs.plan as plan
pub use Rattle.route_ejection.specs.route_load as route_load
pub use Rattle.route_ejection.specs.local_search as local_search
-- and their laws
pub use Rattle.route_ejection.specs.PlanExchanges as PlanExchanges
pub use Rattle.route_ejection.specs.RouteCostVisitLaws as RouteCostVisitLaws
pub use Rattle.route_ejection.specs.RouteLoadFeasibleLaws as RouteLoadFeasibleLaws
