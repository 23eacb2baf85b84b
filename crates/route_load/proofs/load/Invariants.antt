-- What the loop of `load` keeps.
use Rattle.route_load.proofs.FeasibleLaws.{Loading}
use Rattle.route_load.proofs.load.Given as goal

abbrev pub invariant-loop-c : goal.invariant-loop-c
invariant-loop-c l = Loading l.demand.cells.now l.route l.sum l.c-index
