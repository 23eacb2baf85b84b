-- What the contracts of this crate cite.
-- evaluation/mod.rs: the bound on the cost of lateness
pub mod Bound
-- crates below, passed on to those above
pub use Rattle.route_worth.specs.laws as laws
pub use Rattle.route_worth.specs.floats as floats
pub use Rattle.route_worth.specs.models as models
pub use Rattle.route_worth.specs.distance as distance
pub use Rattle.route_worth.specs.labels as labels
pub use Rattle.route_worth.specs.break_clock as break_clock
pub use Rattle.route_worth.specs.evaluation as evaluation
-- and their laws
pub use Rattle.route_worth.specs.ModelsValidLaws as ModelsValidLaws
pub use Rattle.route_worth.specs.BreakClockScheduleLaws as BreakClockScheduleLaws
pub use Rattle.route_worth.specs.BreakClockStopLaws as BreakClockStopLaws
pub use Rattle.route_worth.proofs.EvalLaws as RouteWorthEvalLaws
