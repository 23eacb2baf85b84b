-- `work_rows` meets its contract: what the check does not find alone.
use borrow.Author.Rules.{rules}
use Rattle.stop_checks.specs.entry.Table.{too_few}
use Rattle.stop_checks.specs.entry.Rows.{work_rows}
use Rattle.refusal_rows.proofs.work_rows.Goals as goal

pub returns-then-work-lt8192 : goal.returns-then-work-lt8192
unfolding work_rows too_few
returns-then-work-lt8192 c = search rules

pub returns : goal.returns
unfolding work_rows too_few
returns c = search rules
