-- `effective_cost` meets its contract: what the check does not find alone.
use Rattle.std.proofs.Common.{arith}
use Rattle.std.proofs.lemmas.Grind.{common_steps}
use Rattle.route_drive.specs.evaluation.Eval.{effective_cost}
use Rattle.route_worth.proofs.effective_cost.Goals as goal

pub returns : goal.returns
unfolding effective_cost
returns c = grind (arith, common_steps)
