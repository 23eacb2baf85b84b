-- `first_largest` meets its contract: what the check does not find alone.
use Rattle.elimination_moves.proofs.LargestLaws.{picking_laws}
use Rattle.elimination_moves.proofs.first_largest.Goals as goal

pub loop-i-init : goal.loop-i-init
loop-i-init c = search picking_laws

pub loop-i-preserved : goal.loop-i-preserved
loop-i-preserved c = search picking_laws

pub returns : goal.returns
returns c = search picking_laws
