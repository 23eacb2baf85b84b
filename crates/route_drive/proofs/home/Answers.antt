-- `home` meets its contract: what the check does not find alone.
use Rattle.std.proofs.Common.{arith}
use Rattle.std.proofs.lemmas.Grind.{common_steps}
use Rattle.trial_route.specs.evaluation.Eval.{home}
use Rattle.route_drive.proofs.home.Goals as goal

pub returns : goal.returns
unfolding home
returns c = grind (arith, common_steps)
