-- `try_one` meets its contract: what the check does not find alone.
use native.Mathlib.Omega.{arith}
use Rattle.ejection_positions.specs.laws.Loops.{loop_none, loop_more, loop_end}
use Rattle.ejection_positions.specs.ejection.Eject.{try_one}
use Rattle.route_ejection.proofs.try_one.Goals as goal

pub loop-i-init : goal.loop-i-init
loop-i-init c = loop_none _ _

pub loop-i-preserved : goal.loop-i-preserved
loop-i-preserved c = loop_more _ _ _ _ _ c.loop-i.invariant c.try_out-found.ensures

pub returns : goal.returns
unfolding try_one
returns c = loop_end _ _ _ _ _ c.loop-i.invariant (omega (arith, c.loop-i.auto.i-end))
