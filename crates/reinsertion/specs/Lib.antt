-- What the contracts of this crate cite.
-- crates below, passed on to those above
pub use Rattle.reinsertion_candidates.specs.evaluation as evaluation
pub use Rattle.reinsertion_candidates.specs.laws as laws
pub use Rattle.reinsertion_candidates.specs.floats as floats
pub use Rattle.reinsertion_candidates.specs.models as models
pub use Rattle.reinsertion_candidates.specs.plan as plan
pub use Rattle.reinsertion_candidates.specs.route_order as route_order
pub use Rattle.reinsertion_candidates.specs.route_cost as route_cost
pub use Rattle.reinsertion_candidates.specs.route_load as route_load
pub use Rattle.reinsertion_candidates.specs.local_search as local_search
pub use Rattle.reinsertion_candidates.specs.reinsertion_worth as reinsertion_worth
pub use Rattle.reinsertion_candidates.specs as reinsertion_candidates
-- and their laws
pub use Rattle.reinsertion_candidates.specs.LocalSearchNextLaws as LocalSearchNextLaws
pub use Rattle.reinsertion_candidates.specs.LocalSearchRoundLaws as LocalSearchRoundLaws
pub use Rattle.reinsertion_candidates.specs.LocalSearchSearchLaws as LocalSearchSearchLaws
pub use Rattle.reinsertion_candidates.specs.ReinsertionWorthWorthLaws as ReinsertionWorthWorthLaws
pub use Rattle.reinsertion_candidates.proofs.PlaceIs as ReinsertionCandidatesPlaceIs
