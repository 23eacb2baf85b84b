-- What the contracts of this crate cite.
-- the distance of a route, an insertion, the cost of a plan
pub mod Route
-- crates below, passed on to those above
pub use Rattle.plan.specs.laws as laws
pub use Rattle.evaluation_laws.specs.floats as floats
pub use Rattle.evaluation_laws.specs.models as models
pub use Rattle.evaluation_laws.specs.distance as distance
pub use Rattle.evaluation_laws.specs.labels as labels
pub use Rattle.evaluation_laws.specs.break_clock as break_clock
pub use Rattle.evaluation_laws.specs.evaluation as evaluation
pub use Rattle.plan.specs as plan
-- and their laws
pub use Rattle.evaluation_laws.specs.ModelsValidLaws as ModelsValidLaws
pub use Rattle.evaluation_laws.specs.BreakClockStopLaws as BreakClockStopLaws
pub use Rattle.evaluation_laws.proofs.Agreement as EvaluationLawsAgreement
