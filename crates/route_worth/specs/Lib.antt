-- What the contracts of this crate cite.
-- crates below, passed on to those above
pub use Rattle.route_drive.specs.laws as laws
pub use Rattle.route_drive.specs.floats as floats
pub use Rattle.route_drive.specs.models as models
pub use Rattle.route_drive.specs.distance as distance
pub use Rattle.route_drive.specs.labels as labels
pub use Rattle.route_drive.specs.break_clock as break_clock
pub use Rattle.route_drive.specs.evaluation as evaluation
-- and their laws
pub use Rattle.route_drive.specs.ModelsValidLaws as ModelsValidLaws
pub use Rattle.route_drive.specs.BreakClockScheduleLaws as BreakClockScheduleLaws
pub use Rattle.route_drive.specs.BreakClockStopLaws as BreakClockStopLaws
