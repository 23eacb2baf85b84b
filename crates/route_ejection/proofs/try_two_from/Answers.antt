-- `try_two_from` meets its contract: what the check does not find alone.
use native.Mathlib.Omega.{arith}
use Rattle.route_ejection.proofs.LeaveLaws.{two_none, two_more, two_end}
use Rattle.route_ejection.proofs.try_two_from.Goals as goal

pub loop-j-init : goal.loop-j-init
loop-j-init c = two_none _ _ _ _ _ _ _ _ (omega arith)

pub loop-j-preserved : goal.loop-j-preserved
loop-j-preserved c = two_more _ _ _ _ _ _ _ _ _ c.loop-j.invariant _ (omega (arith, c.loop-j.auto.j)) c.try_out-found.ensures

pub returns : goal.returns
returns c = two_end _ _ _ _ _ _ _ _ _ c.loop-j.invariant (omega (arith, c.loop-j-test.false, c.loop-j.auto.j-end, c.requires.leaves))
