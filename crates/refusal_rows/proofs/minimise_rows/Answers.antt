-- `minimise_rows` meets its contract: what the check does not find alone.
use borrow.Author.Rules.{rules}
use Rattle.stop_checks.specs.entry.Rows.{minimise_rows}
use Rattle.refusal_rows.proofs.GroupLaws.{empty_tape, some_tape}
use Rattle.refusal_rows.proofs.minimise_rows.Goals as goal

pub returns-then-is_empty : goal.returns-then-is_empty
unfolding minimise_rows
returns-then-is_empty c = search (rules, empty_tape, some_tape)

pub returns-then-limit-gt65535 : goal.returns-then-limit-gt65535
unfolding minimise_rows
returns-then-limit-gt65535 c = search (rules, empty_tape, some_tape)

pub returns : goal.returns
unfolding minimise_rows
returns c = search (rules, empty_tape, some_tape)
