-- `move_all` meets its contract: what the check does not find alone.
use native.Mathlib.Omega.{arith}
use Rattle.moved_stops.proofs.MovingLaws.{moving_start, moving_stuck, moving_more, moving_done}
use Rattle.moved_stops.proofs.move_all.Goals as goal

pub loop-m-init : goal.loop-m-init
loop-m-init c = moving_start _ _ _ _ c.requires.waiting

pub returns-in_err-added-clause-moved : goal.returns-in_err-added-clause-moved
returns-in_err-added-clause-moved c = rw c.from_residual.ensures (moving_stuck _ _ _ _ _ _ _ _ c.loop-m.invariant (omega arith) _ c.move_next.new.routes c.move_next.new.left c.move_next.auto.left c.move_next.ensures.moved c.move_next.ensures.rest c.in_err-added.was)

pub loop-m-preserved : goal.loop-m-preserved
loop-m-preserved c = moving_more _ _ _ _ _ _ _ _ c.loop-m.invariant (omega arith) _ c.move_next.new.routes c.move_next.new.left c.move_next.auto.left c.move_next.ensures.moved c.move_next.ensures.rest _ c.in_ok-added.was c.move_next.ensures.grown c.move_next.ensures.kept

pub returns-clause-moved : goal.returns-clause-moved
returns-clause-moved c = moving_done _ _ _ _ _ _ _ _ c.loop-m.invariant (omega arith)
