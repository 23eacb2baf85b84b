-- What the loop of `look_along` keeps.
use Rattle.reinsertion.proofs.PlaceLaws.{Looking}
use Rattle.reinsertion_candidates.specs.evaluation.Given.{of_fleet}
use Rattle.reinsertion.proofs.look_along.Given as goal

abbrev pub invariant-loop-pos : goal.invariant-loop-pos
invariant-loop-pos l = Looking (of_fleet l.fleet) l.stop l.k l.route l.before l.initial.found l.found l.pos
