-- What the contracts of this crate cite.
-- crates below, passed on to those above
pub use Rattle.refusal_rows.specs.laws as laws
pub use Rattle.refusal_rows.specs.models as models
pub use Rattle.refusal_rows.specs.labels as labels
pub use Rattle.refusal_rows.specs.break_clock as break_clock
pub use Rattle.refusal_rows.specs.evaluation as evaluation
pub use Rattle.refusal_rows.specs.plan as plan
pub use Rattle.refusal_rows.specs.route_cost as route_cost
pub use Rattle.refusal_rows.specs.local_search as local_search
pub use Rattle.refusal_rows.specs.entry as entry
-- and their laws
pub use Rattle.refusal_rows.specs.ModelsValidLaws as ModelsValidLaws
pub use Rattle.refusal_rows.specs.LocalSearchReadLaws as LocalSearchReadLaws
pub use Rattle.refusal_rows.specs.EntryAdmittedLaws as EntryAdmittedLaws
