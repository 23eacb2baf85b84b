-- What the search asks for.
pub mod Eliminating
-- crates below, passed on to those above
pub use Rattle.elimination_attempt.specs.evaluation as evaluation
pub use Rattle.elimination_attempt.specs.models as models
pub use Rattle.elimination_attempt.specs.plan as plan
pub use Rattle.elimination_attempt.specs.route_order as route_order
pub use Rattle.elimination_attempt.specs.route_cost as route_cost
pub use Rattle.elimination_attempt.specs.local_search as local_search
pub use Rattle.elimination_attempt.specs.elimination_moves as elimination_moves
pub use Rattle.elimination_attempt.specs.emptied_route as emptied_route
-- and their laws
pub use Rattle.elimination_attempt.specs.LocalSearchRoundLaws as LocalSearchRoundLaws
pub use Rattle.elimination_attempt.specs.LocalSearchSearchLaws as LocalSearchSearchLaws
