-- What the contracts of this crate cite.
-- crates below, passed on to those above
pub use Rattle.exchanged_stops.specs.laws as laws
pub use Rattle.perturbation.specs.models as models
pub use Rattle.perturbation.specs.evaluation as evaluation
pub use Rattle.exchanged_stops.specs.plan as plan
pub use Rattle.perturbation.specs.route_load as route_load
pub use Rattle.perturbation.specs.local_search as local_search
pub use Rattle.perturbation.specs as perturbation
-- and their laws
pub use Rattle.exchanged_stops.specs.PlanExchanges as PlanExchanges
pub use Rattle.perturbation.proofs.MoveDraws as PerturbationMoveDraws
