-- `earliest_start` meets its contract: what the check does not find alone.
use Rattle.std.proofs.Common.{rules}
use lib.Ieee.{neg}
use Rattle.latest_times.proofs.earliest_start.Goals as goal

pub returns : goal.returns
unfolding neg
returns c = search rules
