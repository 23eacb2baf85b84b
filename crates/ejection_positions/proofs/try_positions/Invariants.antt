-- What the loop of `try_positions` keeps.
use mathlib.Core.Path.{◌≡◌}
use lib.ListN.{length}
use Rattle.ejection.specs.laws.Loops.{loop}
use Rattle.ejection.specs.evaluation.Given.{of_fleet}
use Rattle.ejection.specs.route_times.Prepared.{held}
use Rattle.ejection_positions.proofs.PositionLaws.{pass_out}
use Rattle.ejection_positions.proofs.try_positions.Given as goal

abbrev pub invariant-loop-pos : goal.invariant-loop-pos
invariant-loop-pos l = l.found ≡ loop l.pos (pass_out (of_fleet l.fleet) l.c l.out l.left (held (length l.left) l.times)) l.initial.found
