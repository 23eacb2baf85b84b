-- `total_less` meets its contract: what the check does not find alone.
use Rattle.float_functions.proofs.Branches.{keys_tested}
use Rattle.float_functions.proofs.total_less.Goals as goal

pub returns : goal.returns
returns c = search keys_tested
