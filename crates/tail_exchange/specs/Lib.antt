-- What the contracts of this crate cite.
-- crates below, passed on to those above
pub use Rattle.route_exchange.specs.laws as laws
pub use Rattle.joined_tails.specs.models as models
pub use Rattle.joined_tails.specs.evaluation as evaluation
pub use Rattle.route_exchange.specs.plan as plan
pub use Rattle.joined_tails.specs.local_search as local_search
pub use Rattle.joined_tails.specs.perturbation as perturbation
-- and their laws
pub use Rattle.joined_tails.specs.PerturbationMoveDraws as PerturbationMoveDraws
