-- What the contracts of this crate cite.
-- crates below, passed on to those above
pub use Rattle.route_minimization.specs.laws as laws
pub use Rattle.route_minimization.specs.models as models
pub use Rattle.route_minimization.specs.plan as plan
pub use Rattle.route_minimization.specs.ejection_pool as ejection_pool
pub use Rattle.refusals.specs.entry as entry
pub use Rattle.planner.specs as planner
