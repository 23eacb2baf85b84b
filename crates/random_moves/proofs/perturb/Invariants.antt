-- What the loop of `perturb` keeps.
use Rattle.random_moves.proofs.PerturbLaws.{Perturbing}
use Rattle.pair_move.specs.evaluation.Given.{of_instance}
use Rattle.random_moves.proofs.perturb.Given as goal

abbrev pub invariant-loop : goal.invariant-loop
invariant-loop l = Perturbing (of_instance l.given) l.given.fleet.net.roads.size l.fn.routes l.fn.draws l.routes l.work l.draws l.counter
