-- What the contracts of this crate cite. A file uses only files above it in this list.
-- evaluation/mod.rs: what a route is worth
pub mod Eval
-- evaluation/mod.rs: whether a route passes
pub mod Check
-- the problem of a fleet, and of an instance
pub mod Given
-- crates below, passed on to those above
pub use Rattle.break_schedule.specs.laws as laws
pub use Rattle.break_schedule.specs.floats as floats
pub use Rattle.break_schedule.specs.models as models
pub use Rattle.break_schedule.specs.distance as distance
pub use Rattle.break_schedule.specs.labels as labels
pub use Rattle.break_schedule.specs.break_clock as break_clock
-- and their laws
pub use Rattle.break_schedule.specs.ModelsValidLaws as ModelsValidLaws
pub use Rattle.break_schedule.specs.BreakClockScheduleLaws as BreakClockScheduleLaws
pub use Rattle.break_schedule.specs.BreakClockStopLaws as BreakClockStopLaws
