-- What the contracts of this crate cite.
-- crates below, passed on to those above
pub use Rattle.route_checks.specs.laws as laws
pub use Rattle.route_checks.specs.floats as floats
pub use Rattle.route_checks.specs.models as models
pub use Rattle.route_checks.specs.distance as distance
pub use Rattle.route_checks.specs.labels as labels
pub use Rattle.route_checks.specs.break_clock as break_clock
pub use Rattle.route_checks.specs.evaluation as evaluation
-- and their laws
pub use Rattle.route_checks.specs.ModelsValidLaws as ModelsValidLaws
pub use Rattle.route_checks.specs.BreakClockScheduleLaws as BreakClockScheduleLaws
pub use Rattle.route_checks.specs.BreakClockStopLaws as BreakClockStopLaws
