-- The candidates for a stop of a route that is to be eliminated. A file uses only files above it in this list.
-- the candidates, and the first by cost that passes
pub mod Candidates
-- the place for a stop by one pass over routes and positions
pub mod Place
-- what the code asks of a stop, a route and a plan
pub mod Asked
-- crates below, passed on to those above
pub use Rattle.reinsertion_worth.specs.evaluation as evaluation
pub use Rattle.reinsertion_worth.specs.laws as laws
pub use Rattle.reinsertion_worth.specs.floats as floats
pub use Rattle.reinsertion_worth.specs.models as models
pub use Rattle.reinsertion_worth.specs.plan as plan
pub use Rattle.reinsertion_worth.specs.route_order as route_order
pub use Rattle.reinsertion_worth.specs.route_cost as route_cost
pub use Rattle.reinsertion_worth.specs.route_load as route_load
pub use Rattle.reinsertion_worth.specs.local_search as local_search
pub use Rattle.reinsertion_worth.specs as reinsertion_worth
-- and their laws
pub use Rattle.reinsertion_worth.specs.RouteLoadFeasibleLaws as RouteLoadFeasibleLaws
pub use Rattle.reinsertion_worth.specs.LocalSearchNextLaws as LocalSearchNextLaws
pub use Rattle.reinsertion_worth.specs.LocalSearchReadLaws as LocalSearchReadLaws
pub use Rattle.reinsertion_worth.specs.LocalSearchRoundLaws as LocalSearchRoundLaws
pub use Rattle.reinsertion_worth.specs.LocalSearchSearchLaws as LocalSearchSearchLaws
pub use Rattle.reinsertion_worth.proofs.WorthLaws as ReinsertionWorthWorthLaws
