-- The ejection pool. A file uses only files above it in this list.
-- the attempt to empty a route into the others
pub mod Pool
-- what the code asks of a state
pub mod Pooled
-- the state as the code holds it
pub mod Running
-- every definition, opened for theorems by computation
pub mod Opened
-- the pool computed on small plans
pub mod Examples
-- crates below, passed on to those above
pub use Rattle.ejection_made.specs.route_order as route_order
pub use Rattle.ejection_made.specs.route_load as route_load
pub use Rattle.ejection_made.specs.local_search as local_search
pub use Rattle.ejection_made.specs.quick_test as quick_test
pub use Rattle.ejection_made.specs as ejection_made
-- and their laws
pub use Rattle.ejection_made.specs.LocalSearchNextLaws as LocalSearchNextLaws
pub use Rattle.ejection_made.specs.LocalSearchReadLaws as LocalSearchReadLaws
pub use Rattle.ejection_made.specs.LocalSearchSearchLaws as LocalSearchSearchLaws
