-- `gain_floor` meets its contract: what the check does not find alone.
use Rattle.std.proofs.lemmas.Result.{err_from_is_err_and}
use Rattle.problem_questions.proofs.ProblemLaws.{floor_refused, floor_answered}
use Rattle.problem_questions.proofs.gain_floor.Goals as goal

pub returns-in_err-problem_refusal : goal.returns-in_err-problem_refusal
returns-in_err-problem_refusal c = let p = err_from_is_err_and c.from_residual.result c.from_residual.ensures.1 in rw (p.1, p.2) (floor_refused _ _ c.in_err-problem_refusal.ensures)

pub returns : goal.returns
returns c = floor_answered _ c.in_ok-problem_refusal.ensures _ (rw c.distances.ensures at c.gain_floor-floor.ensures)
