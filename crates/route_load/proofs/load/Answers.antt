-- `load` meets its contract: what the check does not find alone.
use Rattle.route_load.proofs.FeasibleLaws.{loading_laws}
use Rattle.route_load.proofs.load.Goals as goal

pub loop-c-preserved : goal.loop-c-preserved
loop-c-preserved c = search loading_laws

pub returns : goal.returns
returns c = search loading_laws
