-- `departures` meets its contract: what the check does not find alone.
use native.Mathlib.Omega.{arith}
use Rattle.walked_times.proofs.DepartureLaws.{leaving_start, leaving_missed, leaving_on, leaving_end}
use Rattle.walked_times.proofs.departures.Goals as goal

pub loop-i-init : goal.loop-i-init
loop-i-init c = leaving_start _ _ _ _ _ c.requires.0

pub returns-in_default : goal.returns-in_default
returns-in_default c = leaving_missed _ _ _ _ _ _ _ _ c.loop-i.invariant _ c.loop-i-test.true c.leave.ensures c.in_default.is

pub loop-i-preserved : goal.loop-i-preserved
loop-i-preserved c = leaving_on _ _ _ _ _ _ _ _ c.loop-i.invariant _ c.loop-i-test.true c.leave.ensures _ c.requires.1 (omega (arith, c.loop-i-test.true, c.requires.2, c.loop-i.auto.out)) c.in-Some.is

pub returns : goal.returns
returns c = leaving_end _ _ _ _ _ _ _ _ c.loop-i.invariant (omega (arith, c.loop-i-test.false, c.loop-i.auto.i-end))
