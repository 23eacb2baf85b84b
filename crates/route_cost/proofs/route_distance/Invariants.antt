-- What the loop of `route_distance` keeps.
use Rattle.route_cost.proofs.DistanceLaws.{Going}
use Rattle.route_cost.proofs.route_distance.Given as goal

abbrev pub invariant-loop-c : goal.invariant-loop-c
invariant-loop-c l = Going l.roads l.depot l.route l.rest l.dist l.prev l.c-index
