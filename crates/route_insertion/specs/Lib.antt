-- What the contracts of this crate cite.
-- crates below, passed on to those above
pub use Rattle.insertion.specs.laws as laws
pub use Rattle.insertion.specs.models as models
pub use Rattle.insertion.specs.evaluation as evaluation
pub use Rattle.insertion.specs.plan as plan
pub use Rattle.insertion.specs.route_cost as route_cost
pub use Rattle.insertion.specs.route_load as route_load
pub use Rattle.insertion.specs.local_search as local_search
pub use Rattle.insertion.specs as insertion

-- and their laws
