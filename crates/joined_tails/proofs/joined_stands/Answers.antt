-- `joined_stands` meets its contract: what the check does not find alone.
use Rattle.joined_tails.proofs.JoinLaws.{joined_stops}
use Rattle.joined_tails.proofs.joined_stands.Goals as goal

pub feasible-requires : goal.feasible-requires
feasible-requires c = joined_stops _ _ _ _ _ c.join-route.ensures _ c.requires.planned c.requires.other c.requires.first c.requires.second
