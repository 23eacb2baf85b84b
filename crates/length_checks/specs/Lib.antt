-- What the contracts of this crate cite.
-- crates below, passed on to those above
pub use Rattle.entry.specs.laws as laws
pub use Rattle.entry.specs.models as models
pub use Rattle.entry.specs.labels as labels
pub use Rattle.entry.specs.break_clock as break_clock
pub use Rattle.entry.specs.evaluation as evaluation
pub use Rattle.entry.specs.plan as plan
pub use Rattle.entry.specs.route_cost as route_cost
pub use Rattle.entry.specs.local_search as local_search
pub use Rattle.entry.specs as entry
-- and their laws
pub use Rattle.entry.specs.BreakClockStopLaws as BreakClockStopLaws
pub use Rattle.entry.specs.LocalSearchReadLaws as LocalSearchReadLaws
pub use Rattle.entry.proofs.AdmittedLaws as EntryAdmittedLaws
