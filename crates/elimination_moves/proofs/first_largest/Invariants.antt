-- What the loop of `first_largest` keeps.
use Rattle.elimination_moves.proofs.LargestLaws.{Picking}
use Rattle.elimination_moves.proofs.first_largest.Given as goal

abbrev pub invariant-loop-i : goal.invariant-loop-i
invariant-loop-i l = Picking l.demand.cells.now l.left l.best l.i
