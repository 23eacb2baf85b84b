-- `drop_empty` meets its contract: what the check does not find alone.
use Rattle.std.proofs.Common.{arith, ◌<◌, ◌≤◌, length}
use Rattle.route_removal.proofs.RemovalLaws.{keeping_laws}
use Rattle.route_removal.proofs.drop_empty.Goals as goal

pub loop-k-init : goal.loop-k-init
loop-k-init c = search keeping_laws

pub loop-k-preserved : goal.loop-k-preserved
loop-k-preserved c = let h : c.loop-k.k < length c.loop-k.lengths = omega (arith, c.loop-k-test.true, c.loop-k.invariant.size) in search (keeping_laws, h)

pub returns-clause-rest : goal.returns-clause-rest
returns-clause-rest c = let h : length c.loop-k.lengths ≤ c.loop-k.k = omega (arith, c.loop-k-test.false, c.loop-k.invariant.size) in search (keeping_laws, h)
