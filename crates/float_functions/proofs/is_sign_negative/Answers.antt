-- `is_sign_negative` meets its contract: what the check does not find alone.
use Rattle.float_functions.proofs.Branches.{sign_of_zero, sign_of_other}
use Rattle.float_functions.proofs.is_sign_negative.Goals as goal

pub returns-then-x : goal.returns-then-x
returns-then-x c = search sign_of_zero

pub returns-else-x : goal.returns-else-x
returns-else-x c = search sign_of_other
