-- `try_routes` meets its contract: what the check does not find alone.
use Rattle.std.proofs.lemmas.Result.{err_from_is_err_and}
use Rattle.pool_attempt.proofs.JudgedLaws.{done_stops, judged_failed, judged_cheaper, judged_dearer}
use Rattle.pool_attempt.proofs.try_routes.Goals as goal

pub returns-in_err-counts-clause-plan : goal.returns-in_err-counts-clause-plan
returns-in_err-counts-clause-plan c =
    let p = err_from_is_err_and c.from_residual.result c.from_residual.ensures.1 in
    rw (p.1, p.2) (judged_failed _ _ _ _ _ _ c.empty_pool.ensures.plan c.in_err-counts.was)

pub is_cheaper-requires-clause-stops : goal.is_cheaper-requires-clause-stops
is_cheaper-requires-clause-stops c = rw c.each.ensures (done_stops _ c.requires c.empty_pool.ensures.plan c.in_ok-counts.was)

pub returns-then-is_cheaper-clause-plan : goal.returns-then-is_cheaper-clause-plan
returns-then-is_cheaper-clause-plan c = judged_cheaper _ _ _ _ _ _ c.empty_pool.ensures.plan c.in_ok-counts.was _ (rw c.each.ensures at c.is_cheaper.ensures) c.if-is_cheaper.true

pub returns-else-is_cheaper-clause-plan : goal.returns-else-is_cheaper-clause-plan
returns-else-is_cheaper-clause-plan c = judged_dearer _ _ _ _ _ _ c.empty_pool.ensures.plan c.in_ok-counts.was _ (rw c.each.ensures at c.is_cheaper.ensures) c.if-is_cheaper.false
