-- What the contracts of this crate cite; the questions' definitions are in planner, Calls.
-- crates below, passed on to those above
pub use Rattle.refusals.specs.laws as laws
pub use Rattle.refusals.specs.models as models
pub use Rattle.refusals.specs.labels as labels
pub use Rattle.refusals.specs.break_clock as break_clock
pub use Rattle.refusals.specs.evaluation as evaluation
pub use Rattle.planner.specs.lateness_bound as lateness_bound
pub use Rattle.refusals.specs.plan as plan
pub use Rattle.refusals.specs.route_cost as route_cost
pub use Rattle.refusals.specs.local_search as local_search
pub use Rattle.planner.specs.ejection_pool as ejection_pool
pub use Rattle.refusals.specs.entry as entry
pub use Rattle.planner.specs as planner
-- and their laws
pub use Rattle.refusals.specs.ModelsValidLaws as ModelsValidLaws
pub use Rattle.refusals.specs.EntryAdmittedLaws as EntryAdmittedLaws
