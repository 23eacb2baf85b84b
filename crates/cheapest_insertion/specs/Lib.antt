-- What the contracts of this crate cite.
-- crates below, passed on to those above
pub use Rattle.route_insertion.specs.laws as laws
pub use Rattle.route_insertion.specs.models as models
pub use Rattle.route_insertion.specs.evaluation as evaluation
pub use Rattle.route_insertion.specs.plan as plan
pub use Rattle.route_insertion.specs.route_cost as route_cost
pub use Rattle.route_insertion.specs.local_search as local_search
pub use Rattle.route_insertion.specs.insertion as insertion
