-- `abs` meets its contract: what the check does not find alone.
use Rattle.float_functions.proofs.Branches.{abs_kit}
use Rattle.float_functions.proofs.abs.Goals as goal

pub returns : goal.returns
returns c = search abs_kit
