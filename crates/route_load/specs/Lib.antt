-- What a feasible route is. A file uses only files above it in this list.
-- the load and the check of a route
pub mod Feasible
-- loads, and the check where it is not needed
pub mod RouteLaws
-- crates below, passed on to those above
pub use Rattle.route_cost.specs.floats as floats
pub use Rattle.route_cost.specs.models as models
pub use Rattle.route_cost.specs.distance as distance
pub use Rattle.route_cost.specs.labels as labels
pub use Rattle.route_cost.specs.break_clock as break_clock
pub use Rattle.route_cost.specs.evaluation as evaluation
pub use Rattle.route_cost.specs as route_cost
-- and their laws
pub use Rattle.route_cost.specs.ModelsValidLaws as ModelsValidLaws
pub use Rattle.route_cost.specs.BreakClockStopLaws as BreakClockStopLaws
pub use Rattle.route_cost.proofs.VisitLaws as RouteCostVisitLaws
