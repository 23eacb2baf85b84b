-- What the loop of `try_two_from` keeps.
use mathlib.Core.Path.{◌≡◌}
use Rattle.ejection_positions.specs.evaluation.Given.{of_instance}
use Rattle.route_ejection.proofs.LeaveLaws.{tried}
use Rattle.route_ejection.proofs.try_two_from.Given as goal

abbrev pub invariant-loop-j : goal.invariant-loop-j
invariant-loop-j l = l.found ≡ tried (of_instance l.sought.given.now) l.sought.c l.sought.failures.now l.k l.route l.i l.initial.found l.j
