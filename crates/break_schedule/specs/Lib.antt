-- What the contracts of this crate cite.
-- crates below, passed on to those above
pub use Rattle.break_clock.specs.laws as laws
pub use Rattle.break_clock.specs.floats as floats
pub use Rattle.break_clock.specs.models as models
pub use Rattle.break_clock.specs.distance as distance
pub use Rattle.break_clock.specs.labels as labels
pub use Rattle.break_clock.specs as break_clock
-- and their laws
pub use Rattle.break_clock.specs.ModelsValidLaws as ModelsValidLaws
pub use Rattle.break_clock.proofs.ScheduleLaws as BreakClockScheduleLaws
pub use Rattle.break_clock.proofs.StopLaws as BreakClockStopLaws
