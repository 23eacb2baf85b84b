-- `has_room_for` meets its contract: what the check does not find alone.
use Rattle.route_load.proofs.FeasibleLaws.{load_laws}
use Rattle.route_load.proofs.has_room_for.Goals as goal

pub overflow_add-result : goal.overflow_add-result
overflow_add-result c = search load_laws

pub returns : goal.returns
returns c = search load_laws
