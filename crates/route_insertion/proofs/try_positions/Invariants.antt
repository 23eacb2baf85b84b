-- What the loop of `try_positions` keeps.
use mathlib.Core.Path.{◌≡◌}
use lib.ListN.{length}
use Rattle.insertion.specs.laws.Loops.{loop}
use Rattle.insertion.specs.route_times.Prepared.{held}
use Rattle.insertion.specs.Pass.{pass_position}
use Rattle.insertion.specs.evaluation.Given.{of_fleet}
use Rattle.route_insertion.proofs.try_positions.Given as goal

abbrev pub invariant-loop-pos : goal.invariant-loop-pos
invariant-loop-pos l = l.found ≡ loop l.pos (pass_position (of_fleet l.fleet) l.c l.k l.route (held (length l.route) l.times)) l.initial.found
