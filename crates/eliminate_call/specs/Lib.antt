-- What the contracts of this crate cite.
-- crates below, passed on to those above
pub use Rattle.route_elimination.specs.models as models
pub use Rattle.planner.specs as planner
