-- What the loop of `shift_right` keeps.
use Rattle.cell_shifts.proofs.ShiftLaws.{Shifting}
use Rattle.cell_shifts.proofs.shift_right.Given as goal

abbrev pub invariant-loop-i : goal.invariant-loop-i
invariant-loop-i l = Shifting l.initial.tail l.c l.tail l.carry l.i
