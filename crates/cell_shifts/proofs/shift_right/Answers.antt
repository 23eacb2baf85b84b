-- `shift_right` meets its contract: what the check does not find alone.
use Rattle.std.proofs.Common.{arith}
use Rattle.cell_shifts.proofs.ShiftLaws.{shifting_none, shifting_more, shifting_all}
use Rattle.cell_shifts.proofs.shift_right.Goals as goal

pub loop-i-init : goal.loop-i-init
loop-i-init c = shifting_none _ _

pub loop-i-preserved : goal.loop-i-preserved
loop-i-preserved c = shifting_more _ _ _ _ _ c.loop-i.invariant (omega (arith, c.loop-i-test.true, c.loop-i.invariant.size))

pub returns : goal.returns
returns c = shifting_all _ _ _ _ _ c.loop-i.invariant (omega (arith, c.loop-i-test.false, c.loop-i.invariant.size))
