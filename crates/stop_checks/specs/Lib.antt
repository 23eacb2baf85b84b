-- What the contracts of this crate cite.
-- row 6 in code: the stops so far, marked
pub mod Marks
-- crates below, passed on to those above
pub use Rattle.length_checks.specs.models as models
pub use Rattle.length_checks.specs.labels as labels
pub use Rattle.length_checks.specs.break_clock as break_clock
pub use Rattle.length_checks.specs.evaluation as evaluation
pub use Rattle.length_checks.specs.plan as plan
pub use Rattle.length_checks.specs.route_cost as route_cost
pub use Rattle.length_checks.specs.local_search as local_search
pub use Rattle.length_checks.specs.entry as entry
-- and their laws
pub use Rattle.length_checks.specs.LocalSearchReadLaws as LocalSearchReadLaws
pub use Rattle.length_checks.specs.EntryAdmittedLaws as EntryAdmittedLaws
