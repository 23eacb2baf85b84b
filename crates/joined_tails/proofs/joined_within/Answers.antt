-- `joined_within` meets its contract: what the check does not find alone.
use Rattle.joined_tails.proofs.JoinLaws.{joined_stops}
use Rattle.joined_tails.proofs.joined_within.Goals as goal

pub within_capacity-requires : goal.within_capacity-requires
within_capacity-requires c = joined_stops _ _ _ _ _ c.join-route.ensures _ c.requires.planned c.requires.other c.requires.first c.requires.second
