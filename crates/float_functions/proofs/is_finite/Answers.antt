-- `is_finite` meets its contract: what the check does not find alone.
use Rattle.float_functions.proofs.Branches.{finite_kit}
use Rattle.float_functions.proofs.is_finite.Goals as goal

pub returns : goal.returns
returns c = search finite_kit
