-- What the loop of `cheapest` keeps.
use Rattle.std.proofs.Common.{None}
use Rattle.route_insertion.specs.evaluation.Given.{of_instance}
use Rattle.route_insertion.specs.insertion.Cheapest.{try_route}
use Rattle.route_insertion.specs.plan.Given.{routes_left}
use Rattle.route_insertion.specs.plan.Left.{Left}
use Rattle.cheapest_insertion.proofs.cheapest.Given as goal

abbrev pub invariant-loop-k : goal.invariant-loop-k
invariant-loop-k l =
    (goal.iterator-loop-k).can_next l.k-iterator
    × Left (try_route (of_instance l.given) l.c) None l.best (routes_left l.fn.routes) (routes_left l.k-iterator.iter) l.k-iterator.count
