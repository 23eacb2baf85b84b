-- What both route searches share. A file uses only files above it in this list.
-- `Option` as a search's answer
pub mod Options
-- the rounds of attempts
pub mod Rounds
-- a plan over n places
pub mod Planned
-- a rule of proof for the attempts of a round, and one for the rounds
pub mod RoundRules
-- what an accepted attempt keeps, the rounds keep
pub mod Reduced
-- the search as the code makes it
pub mod Search
-- every definition, opened for theorems by computation
pub mod Opened
-- crates below, passed on to those above
pub use Rattle.route_order.specs.laws as laws
pub use Rattle.route_load.specs.floats as floats
pub use Rattle.route_load.specs.models as models
pub use Rattle.route_load.specs.distance as distance
pub use Rattle.route_load.specs.labels as labels
pub use Rattle.route_load.specs.break_clock as break_clock
pub use Rattle.route_load.specs.evaluation as evaluation
pub use Rattle.route_order.specs.plan as plan
pub use Rattle.route_order.specs as route_order
pub use Rattle.route_load.specs.route_cost as route_cost
pub use Rattle.route_load.specs as route_load
-- and their laws
pub use Rattle.route_load.specs.ModelsValidLaws as ModelsValidLaws
pub use Rattle.route_load.specs.BreakClockStopLaws as BreakClockStopLaws
pub use Rattle.route_order.specs.PlanExchanges as PlanExchanges
pub use Rattle.route_load.specs.RouteCostVisitLaws as RouteCostVisitLaws
pub use Rattle.route_load.proofs.FeasibleLaws as RouteLoadFeasibleLaws
