-- `within_capacity` meets its contract: what the check does not find alone.
use Rattle.route_load.proofs.FeasibleLaws.{load_laws}
use Rattle.route_load.proofs.within_capacity.Goals as goal

pub returns : goal.returns
returns c = search load_laws
