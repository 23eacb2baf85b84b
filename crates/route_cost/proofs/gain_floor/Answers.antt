-- `gain_floor` meets its contract: what the check does not find alone.
use Rattle.route_cost.proofs.gain_floor.Goals as goal

pub returns : goal.returns
returns c = cc
