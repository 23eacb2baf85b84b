-- What the loop of `copy_part` keeps.
use Rattle.cells.proofs.CellLaws.{Copying}
use Rattle.cells.proofs.copy_part.Given as goal

abbrev pub invariant-loop-i : goal.invariant-loop-i
invariant-loop-i l = Copying l.initial.dst l.at l.src l.from l.n l.dst l.i
