-- `lateness_bound` meets its contract: what the check does not find alone.
use Rattle.std.proofs.lemmas.Result.{err_from_is_err_and}
use Rattle.problem_questions.proofs.ProblemLaws.{problem_fit, bound_refused, bound_answered}
use Rattle.problem_questions.proofs.lateness_bound.Goals as goal

pub returns-in_err-problem_refusal : goal.returns-in_err-problem_refusal
returns-in_err-problem_refusal c = let p = err_from_is_err_and c.from_residual.result c.from_residual.ensures.1 in rw (p.1, p.2) (bound_refused _ _ c.in_err-problem_refusal.ensures)

pub network-requires : goal.network-requires
network-requires c = problem_fit _ c.in_ok-problem_refusal.ensures

pub returns : goal.returns
returns c = bound_answered _ c.in_ok-problem_refusal.ensures _ (rw (c.network.ensures.0, c.network.ensures.1) at c.lateness_bound-most.ensures)
