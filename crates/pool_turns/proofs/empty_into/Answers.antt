-- `empty_into` meets its contract: what the check does not find alone.
use native.Mathlib.Omega.{arith}
use Rattle.std.proofs.lemmas.Result.{err_from_is_err_and}
use Rattle.pool_turns.proofs.LoopLaws.{waits, none_waits, looping_done, looping_spent, looping_clocked, looping_stuck, looping_more}
use Rattle.pool_turns.proofs.empty_into.Goals as goal
use Rattle.pool_turns.proofs.empty_into.Goals.{then-left-eq0-via-then-left-eq0, then-left-eq0-via-else-left-eq0+then-given-counts}

pub returns-then-left-eq0-clause-plan : goal.returns-then-left-eq0-clause-plan
returns-then-left-eq0-clause-plan c = elim c.then-left-eq0.branch [
  | then-left-eq0-via-then-left-eq0 w ↦ looping_spent c.loop-counts.invariant (waits c.is_empty.ensures c.loop-counts-test.true) w.if-left-eq0.true
  | then-left-eq0-via-else-left-eq0+then-given-counts w ↦ looping_clocked c.loop-counts.invariant (waits c.is_empty.ensures c.loop-counts-test.true) w.if-left-eq0.false (omega (arith, w.if-given-counts.true))
]

pub returns-in_err-counts-clause-plan : goal.returns-in_err-counts-clause-plan
returns-in_err-counts-clause-plan c =
    let p = err_from_is_err_and c.from_residual.result c.from_residual.ensures.1 in
    rw (p.1, p.2) (looping_stuck c.loop-counts.invariant (waits c.is_empty.ensures c.loop-counts-test.true) c.if-left-eq0.false (omega (arith, c.if-given-counts.false)) _ c.one_turn.new.routes _ _ c.one_turn.ensures.plan c.in_err-counts.was)

pub loop-counts-preserved : goal.loop-counts-preserved
loop-counts-preserved c =
    looping_more c.loop-counts.invariant (waits c.is_empty.ensures c.loop-counts-test.true) c.if-left-eq0.false (omega (arith, c.if-given-counts.false)) _ _ _ _ c.one_turn.ensures.plan c.in_ok-counts.was
    c.one_turn.ensures.kept c.one_turn.auto.work

pub returns-clause-plan : goal.returns-clause-plan
returns-clause-plan c = looping_done c.loop-counts.invariant (none_waits c.is_empty.ensures c.loop-counts-test.false)
