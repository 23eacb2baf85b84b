-- `route_eval` meets its contract: what the check does not find alone.
use Rattle.std.proofs.Common.{arith, rules}
use Rattle.std.proofs.lemmas.Grind.{common_steps}
use Rattle.route_worth.proofs.EvalLaws.{drive_ends}
use Rattle.route_drive.specs.evaluation.Eval.{route_eval}
use Rattle.route_worth.proofs.route_eval.Goals as goal

pub returns-in_err-walk : goal.returns-in_err-walk
unfolding route_eval
returns-in_err-walk c = grind (arith, common_steps)

pub home-requires-clause-prev_lt_n : goal.home-requires-clause-prev_lt_n
home-requires-clause-prev_lt_n c = (search (rules, drive_ends, c.in_ok-walk.was, c.requires), c.requires.0)

pub returns-in_default : goal.returns-in_default
unfolding route_eval
returns-in_default c = grind (arith, common_steps)

pub returns : goal.returns
unfolding route_eval
returns c = grind (arith, common_steps)
