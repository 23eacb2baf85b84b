-- Lists of calls as words. A file uses only files above it in this list.
-- what the words ask for and what is recorded
pub mod Words
-- what the lent slices hold
pub mod Lent
-- some lists and records
pub mod WordCases
-- crates below, passed on to those above
pub use Rattle.planner.specs.laws as laws
pub use Rattle.planner.specs.models as models
pub use Rattle.planner.specs.plan as plan
pub use Rattle.planner.specs.local_search as local_search
pub use Rattle.planner.specs.entry as entry
pub use Rattle.planner.specs as planner
-- and their laws
pub use Rattle.planner.proofs.Demand3 as PlannerDemand3
