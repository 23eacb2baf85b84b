-- What the contracts of this crate cite.
-- crates below, passed on to those above
pub use Rattle.stop_exchange.specs.models as models
pub use Rattle.stop_exchange.specs.evaluation as evaluation
pub use Rattle.stop_exchange.specs.route_load as route_load
pub use Rattle.stop_exchange.specs.local_search as local_search
pub use Rattle.stop_exchange.specs.perturbation as perturbation
-- and their laws
pub use Rattle.stop_exchange.specs.PerturbationMoveDraws as PerturbationMoveDraws
