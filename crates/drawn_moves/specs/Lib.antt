-- What the contracts of this crate cite.
-- crates below, passed on to those above
pub use Rattle.tail_exchange.specs.laws as laws
pub use Rattle.tail_exchange.specs.models as models
pub use Rattle.tail_exchange.specs.evaluation as evaluation
pub use Rattle.tail_exchange.specs.plan as plan
pub use Rattle.tail_exchange.specs.local_search as local_search
pub use Rattle.tail_exchange.specs.perturbation as perturbation
-- and their laws
pub use Rattle.tail_exchange.specs.PerturbationMoveDraws as PerturbationMoveDraws
