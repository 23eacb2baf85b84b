-- `plan_rows` meets its contract: what the check does not find alone.
use borrow.Author.Rules.{rules}
use Rattle.stop_checks.specs.entry.Rows.{plan_rows}
use Rattle.refusal_rows.proofs.plan_rows.Goals as goal

pub returns-then-bad_lengths : goal.returns-then-bad_lengths
unfolding plan_rows
returns-then-bad_lengths c = search rules

pub returns : goal.returns
unfolding plan_rows
returns c = search rules
