-- What the contracts of this crate cite.
-- crates below, passed on to those above
pub use Rattle.elimination_round.specs.models as models
pub use Rattle.elimination_round.specs.plan as plan
pub use Rattle.elimination_round.specs.local_search as local_search
pub use Rattle.elimination_round.specs.elimination_moves as elimination_moves
