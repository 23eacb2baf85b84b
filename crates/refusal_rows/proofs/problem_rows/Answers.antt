-- `problem_rows` meets its contract: what the check does not find alone.
use borrow.Author.Rules.{rules}
use Rattle.place_checks.specs.laws.Picks.{via}
use Rattle.place_checks.specs.models.Valid.{windows_pass}
use Rattle.stop_checks.specs.entry.Rows.{problem_rows}
use Rattle.refusal_rows.proofs.GroupLaws.{ready_flags, due_flags}
use Rattle.refusal_rows.proofs.problem_rows.Goals as goal

pub values_pass-requires : goal.values_pass-requires
values_pass-requires c = search rules

pub windows_pass-requires : goal.windows_pass-requires
windows_pass-requires c = let e = via _ _ _ c.sizes_pass.ensures c.if-not-sizes_pass.false in
    (ready_flags _ e, due_flags _ e)

pub returns-then-not-sizes_pass : goal.returns-then-not-sizes_pass
unfolding problem_rows windows_pass
returns-then-not-sizes_pass c = search rules

pub returns-then-not-beside : goal.returns-then-not-beside
unfolding problem_rows windows_pass
returns-then-not-beside c = search rules

pub returns-then-not-windows_pass : goal.returns-then-not-windows_pass
unfolding problem_rows windows_pass
returns-then-not-windows_pass c = search rules

pub returns-then-problem-size : goal.returns-then-problem-size
unfolding problem_rows windows_pass
returns-then-problem-size c = search rules

pub returns : goal.returns
unfolding problem_rows windows_pass
returns c = search rules
