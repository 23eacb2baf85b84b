-- What the contracts of this crate cite.
-- crates below, passed on to those above
pub use Rattle.call_words.specs.laws as laws
pub use Rattle.call_words.specs.models as models
pub use Rattle.call_words.specs.plan as plan
pub use Rattle.call_words.specs.local_search as local_search
pub use Rattle.call_words.specs.entry as entry
pub use Rattle.call_words.specs.planner as planner
pub use Rattle.call_words.specs as call_words
-- and their laws
pub use Rattle.call_words.specs.PlannerDemand3 as PlannerDemand3
pub use Rattle.call_words.proofs.FormLaws as CallWordsFormLaws
