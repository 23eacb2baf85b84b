-- What the contracts of this crate cite.
-- crates below, passed on to those above
pub use Rattle.route_cost.specs.laws as laws
pub use Rattle.route_cost.specs.floats as floats
pub use Rattle.route_cost.specs.models as models
pub use Rattle.route_cost.specs.evaluation as evaluation
pub use Rattle.route_cost.specs.plan as plan
pub use Rattle.route_cost.specs as route_cost
