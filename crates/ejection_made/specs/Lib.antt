-- The ejection made.
-- on the plan and on the pool
pub mod Made
-- and the pool as it lies in cells
pub mod Cells
-- crates below, passed on to those above
pub use Rattle.ejection.specs.laws as laws
pub use Rattle.ejection.specs.models as models
pub use Rattle.ejection.specs.evaluation as evaluation
pub use Rattle.ejection.specs.plan as plan
pub use Rattle.ejection.specs.route_order as route_order
pub use Rattle.ejection.specs.route_cost as route_cost
pub use Rattle.ejection.specs.route_load as route_load
pub use Rattle.ejection.specs.local_search as local_search
pub use Rattle.ejection.specs.quick_test as quick_test
pub use Rattle.ejection.specs.insertion as insertion
pub use Rattle.ejection.specs as ejection
-- and their laws
pub use Rattle.ejection.specs.LocalSearchNextLaws as LocalSearchNextLaws
pub use Rattle.ejection.specs.LocalSearchReadLaws as LocalSearchReadLaws
pub use Rattle.ejection.specs.LocalSearchSearchLaws as LocalSearchSearchLaws
