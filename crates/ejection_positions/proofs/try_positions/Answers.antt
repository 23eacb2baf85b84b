-- `try_positions` meets its contract: what the check does not find alone.
use native.Mathlib.Omega.{arith}
use Rattle.ejection.specs.laws.Loops.{loop_none, loop_more, loop_end}
use Rattle.ejection_positions.proofs.try_positions.Goals as goal

pub loop-pos-init : goal.loop-pos-init
loop-pos-init c = loop_none _ _

pub loop-pos-preserved : goal.loop-pos-preserved
loop-pos-preserved c = loop_more _ _ _ _ _ c.loop-pos.invariant c.try_in_kept-found.ensures

pub returns-2 : goal.returns-2
returns-2 c =
    loop_end _ _ _ _ _ (loop_more _ _ _ _ _ c.loop-pos.invariant c.try_in_kept-found.ensures) (omega (arith, c.loop-pos-test.true, c.loop-pos.auto.pos-end))
