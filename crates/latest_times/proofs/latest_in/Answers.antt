-- `latest_in` meets its contract: what the check does not find alone.
use Rattle.std.proofs.Common.{rules}
use lib.Ieee.{neg}
use Rattle.quick_fit.specs.quick_test.Parts.{latest_in}
use Rattle.latest_times.proofs.latest_in.Goals as goal

pub returns-then-earliest_start-start_by : goal.returns-then-earliest_start-start_by
unfolding latest_in neg
returns-then-earliest_start-start_by c = search rules

pub returns : goal.returns
unfolding latest_in
returns c = search rules
