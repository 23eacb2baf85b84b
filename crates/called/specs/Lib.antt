-- One public call of a list.
-- what it is lent
pub mod Lent
-- the call, as the code is given it
pub mod Changes
-- crates below, passed on to those above
pub use Rattle.minimise_call.specs.models as models
pub use Rattle.minimise_call.specs.plan as plan
pub use Rattle.minimise_call.specs.ejection_pool as ejection_pool
pub use Rattle.minimise_call.specs.planner as planner
