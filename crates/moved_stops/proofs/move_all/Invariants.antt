-- What the loop of `move_all` keeps.
use Rattle.moved_stops.proofs.MovingLaws.{Moving}
use Rattle.stop_moves.specs.evaluation.Given.{of_instance}
use Rattle.moved_stops.proofs.move_all.Given as goal

abbrev pub invariant-loop-m : goal.invariant-loop-m
invariant-loop-m l = Moving (of_instance l.given) l.saved l.initial.routes l.initial.left l.routes l.left l.added l.m
