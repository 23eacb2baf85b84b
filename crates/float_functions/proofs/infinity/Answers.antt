-- `infinity` meets its contract: what the check does not find alone.
use mathlib.Core.Path.{refl}
use lib.Ieee.{div, of_bits}
use Rattle.float_functions.proofs.infinity.Goals as goal

pub returns : goal.returns
unfolding div of_bits
returns c = refl
