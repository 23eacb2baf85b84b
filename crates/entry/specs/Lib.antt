-- The entry checks. A file uses only files above it in this list.
-- the refusal table
pub mod Table
-- what each call gives it
pub mod Given
-- the table's rows in groups, as the code asks them
pub mod Rows
-- crates below, passed on to those above
pub use Rattle.local_search.specs.laws as laws
pub use Rattle.local_search.specs.floats as floats
pub use Rattle.local_search.specs.models as models
pub use Rattle.local_search.specs.distance as distance
pub use Rattle.local_search.specs.labels as labels
pub use Rattle.local_search.specs.break_clock as break_clock
pub use Rattle.local_search.specs.evaluation as evaluation
pub use Rattle.local_search.specs.plan as plan
pub use Rattle.local_search.specs.route_cost as route_cost
pub use Rattle.local_search.specs as local_search
pub use Rattle.refusal.specs as refusal
-- and their laws
pub use Rattle.local_search.specs.BreakClockStopLaws as BreakClockStopLaws
pub use Rattle.local_search.proofs.ReadLaws as LocalSearchReadLaws
