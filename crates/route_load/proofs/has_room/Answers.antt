-- `has_room` meets its contract: what the check does not find alone.
use Rattle.route_load.specs.Feasible.{has_room}
use Rattle.route_load.proofs.FeasibleLaws.{load_laws}
use Rattle.route_load.proofs.has_room.Goals as goal

pub has_room_for-requires-clause-small : goal.has_room_for-requires-clause-small
has_room_for-requires-clause-small c = search load_laws

pub returns : goal.returns
unfolding has_room
returns c = search load_laws
