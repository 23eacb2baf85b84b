-- The public interface. A file uses only files above it in this list.
-- the public calls
pub mod Calls
-- the answers in code
pub mod Told
-- lists of calls, and the claim about them
pub mod Run
-- every definition, opened for theorems by computation
pub mod Opened
-- the twelve cases
pub mod Cases
-- the table row by row
pub mod Refusals
-- crates below, passed on to those above
pub use Rattle.lateness_bound.specs.laws as laws
pub use Rattle.lateness_bound.specs.floats as floats
pub use Rattle.lateness_bound.specs.models as models
pub use Rattle.lateness_bound.specs.labels as labels
pub use Rattle.lateness_bound.specs.break_clock as break_clock
pub use Rattle.lateness_bound.specs as lateness_bound
pub use Rattle.minimization.specs.plan as plan
pub use Rattle.minimization.specs.local_search as local_search
pub use Rattle.minimization.specs.ejection_pool as ejection_pool
pub use Rattle.minimization.specs as minimization
pub use Rattle.elimination_moves.specs as elimination_moves
pub use Rattle.entry.specs as entry
-- and their laws
pub use Rattle.entry.proofs.AdmittedLaws as EntryAdmittedLaws
pub use Rattle.entry.proofs.EntryLaws as EntryEntryLaws
