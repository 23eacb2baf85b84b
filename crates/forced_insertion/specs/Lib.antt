-- A stop of the pool goes into the routes.
-- how a turn ends
pub mod Turned
-- crates below, passed on to those above
pub use Rattle.cheapest_insertion.specs.evaluation as evaluation
pub use Rattle.cheapest_insertion.specs.laws as laws
pub use Rattle.cheapest_insertion.specs.models as models
pub use Rattle.cheapest_insertion.specs.plan as plan
pub use Rattle.cheapest_insertion.specs.route_cost as route_cost
pub use Rattle.cheapest_insertion.specs.local_search as local_search
pub use Rattle.cheapest_insertion.specs.insertion as insertion
pub use Rattle.made_room.specs.ejection as ejection
pub use Rattle.made_room.specs.ejection_made as ejection_made
pub use Rattle.ejection_pool.specs as ejection_pool
-- and their laws
pub use Rattle.ejection_pool.proofs.PooledLaws as EjectionPoolPooledLaws
pub use Rattle.ejection_pool.proofs.Turns as EjectionPoolTurns
