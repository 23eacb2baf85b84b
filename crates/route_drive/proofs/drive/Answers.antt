-- `drive` meets its contract: what the check does not find alone.
use Rattle.std.proofs.Common.{arith}
use Rattle.std.proofs.lemmas.Grind.{common_steps}
use Rattle.trial_route.specs.evaluation.Eval.{drive}
use Rattle.route_drive.proofs.drive.Goals as goal

pub returns-in_err-label : goal.returns-in_err-label
unfolding drive
returns-in_err-label c = grind (arith, common_steps)

pub returns : goal.returns
unfolding drive
returns c = grind (arith, common_steps)
