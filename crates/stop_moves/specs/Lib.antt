-- The stops of a route that are moved.
-- what the code keeps between them
pub mod Moves
-- crates below, passed on to those above
pub use Rattle.reinsertion.specs.evaluation as evaluation
pub use Rattle.reinsertion.specs.laws as laws
pub use Rattle.reinsertion.specs.floats as floats
pub use Rattle.reinsertion.specs.models as models
pub use Rattle.reinsertion.specs.plan as plan
pub use Rattle.reinsertion.specs.route_order as route_order
pub use Rattle.reinsertion.specs.route_cost as route_cost
pub use Rattle.reinsertion.specs.local_search as local_search
pub use Rattle.reinsertion.specs.reinsertion_worth as reinsertion_worth
pub use Rattle.elimination_moves.specs as elimination_moves
-- and their laws
pub use Rattle.reinsertion.specs.LocalSearchNextLaws as LocalSearchNextLaws
pub use Rattle.reinsertion.specs.LocalSearchRoundLaws as LocalSearchRoundLaws
pub use Rattle.reinsertion.specs.LocalSearchSearchLaws as LocalSearchSearchLaws
