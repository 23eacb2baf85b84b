-- `next_as_large` meets its contract: what the check does not find alone.
use Rattle.std.proofs.Common.{arith}
use Rattle.distance.proofs.MatrixLaws.{larger_next, seen_smaller}
use Rattle.distance.proofs.next_as_large.Goals as goal

pub loop-i-preserved : goal.loop-i-preserved
loop-i-preserved c = (omega (arith, c.loop-i.invariant.0), search (seen_smaller, c.loop-i.invariant.1))

pub returns-then-xs-i : goal.returns-then-xs-i
returns-then-xs-i c = (c.loop-i.invariant.0, c.loop-i-test.true, c.loop-i.invariant.1, larger_next _ _ c.requires.number c.if-xs-i.true)
