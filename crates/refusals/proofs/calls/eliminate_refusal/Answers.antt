-- `calls::eliminate_refusal` meets its contract: what the check does not find alone.
use borrow.Author.Rules.{rules}
use Rattle.std.proofs.lemmas.Result.{err_from_is_err_and}
use Rattle.refusals.proofs.RefusalLaws.{eliminate_laws, eliminate_plan}
use Rattle.refusals.proofs.calls.eliminate_refusal.Goals as goal

pub returns-in_err-problem_rows : goal.returns-in_err-problem_rows
returns-in_err-problem_rows c = search (rules, eliminate_laws)

pub returns-in_err-plan_rows : goal.returns-in_err-plan_rows
returns-in_err-plan_rows c = let p = err_from_is_err_and c.from_residual-in_err-plan_rows.result c.from_residual-in_err-plan_rows.ensures.1 in
    rw (p.1, p.2) (eliminate_plan _ _ _ c.in_ok-problem_rows.ensures _ c.in_err-plan_rows.ensures)

pub returns : goal.returns
returns c = search (rules, eliminate_laws)
