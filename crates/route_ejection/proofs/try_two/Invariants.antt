-- What the loop of `try_two` keeps.
use mathlib.Core.Path.{◌≡◌}
use Rattle.ejection_positions.specs.laws.Loops.{loop}
use Rattle.ejection_positions.specs.ejection.Eject.{try_two_from}
use Rattle.ejection_positions.specs.evaluation.Given.{of_instance}
use Rattle.route_ejection.proofs.try_two.Given as goal

abbrev pub invariant-loop-i : goal.invariant-loop-i
invariant-loop-i l = l.found ≡ loop l.i (try_two_from (of_instance l.sought.given.now) l.sought.c l.sought.failures.now l.k l.route) l.initial.found
