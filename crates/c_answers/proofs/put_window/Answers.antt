-- `put_window` meets its contract: what the check does not find alone.
use Rattle.std.proofs.Common.{rules}
use Rattle.c_evaluations.specs.CValuesAnswerLaws.{one_cell}
use Rattle.c_answers.proofs.put_window.Goals as goal

pub returns : goal.returns
returns c = search (rules, one_cell)
