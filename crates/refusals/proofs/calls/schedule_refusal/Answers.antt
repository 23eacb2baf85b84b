-- `calls::schedule_refusal` meets its contract: what the check does not find alone.
use Rattle.std.proofs.lemmas.Result.{err_from_is_err_and}
use Rattle.refusals.proofs.RefusalLaws.{schedule_first, schedule_next}
use Rattle.refusals.proofs.calls.schedule_refusal.Goals as goal

pub returns-in_err-problem_rows : goal.returns-in_err-problem_rows
returns-in_err-problem_rows c = let p = err_from_is_err_and c.from_residual.result c.from_residual.ensures.1 in rw (p.1, p.2) (schedule_first _ _ _ _ c.break_passes-beside.ensures _ c.in_err-problem_rows.ensures)

pub returns : goal.returns
returns c = schedule_next _ _ _ _ c.break_passes-beside.ensures _ c.in_ok-problem_rows.ensures c.route_rows.ensures
