-- What the contracts of this crate cite.
-- crates below, passed on to those above
pub use Rattle.evaluation.specs.laws as laws
pub use Rattle.evaluation.specs.floats as floats
pub use Rattle.evaluation.specs.models as models
pub use Rattle.evaluation.specs.distance as distance
pub use Rattle.evaluation.specs.labels as labels
pub use Rattle.evaluation.specs.break_clock as break_clock
pub use Rattle.evaluation.specs as evaluation
-- and their laws
pub use Rattle.evaluation.specs.ModelsValidLaws as ModelsValidLaws
pub use Rattle.evaluation.specs.BreakClockScheduleLaws as BreakClockScheduleLaws
pub use Rattle.evaluation.specs.BreakClockStopLaws as BreakClockStopLaws
pub use Rattle.evaluation.proofs.CheckLaws as EvaluationCheckLaws
