-- `put_checked` meets its contract: what the check does not find alone.
use Rattle.std.proofs.Common.{rules}
use Rattle.c_evaluations.specs.CValuesAnswerLaws.{one_cell}
use Rattle.c_answers.proofs.put_checked.Goals as goal

pub returns-in-Ok : goal.returns-in-Ok
returns-in-Ok c = search (rules, one_cell)
