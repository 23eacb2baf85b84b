-- What the contracts of this crate cite.
-- crates below, passed on to those above
pub use Rattle.trial_route.specs.laws as laws
pub use Rattle.trial_route.specs.floats as floats
pub use Rattle.trial_route.specs.models as models
pub use Rattle.trial_route.specs.distance as distance
pub use Rattle.trial_route.specs.labels as labels
pub use Rattle.trial_route.specs.break_clock as break_clock
pub use Rattle.trial_route.specs.evaluation as evaluation
-- and their laws
pub use Rattle.trial_route.specs.ModelsValidLaws as ModelsValidLaws
pub use Rattle.trial_route.specs.BreakClockScheduleLaws as BreakClockScheduleLaws
pub use Rattle.trial_route.specs.BreakClockStopLaws as BreakClockStopLaws
