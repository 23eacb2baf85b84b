-- What the loop of `eject_some` keeps.
use Rattle.std.proofs.Common.{None}
use Rattle.route_ejection.specs.evaluation.Given.{of_instance}
use Rattle.route_ejection.specs.plan.Given.{routes_left}
use Rattle.route_ejection.specs.plan.Left.{Left}
use Rattle.ejection_search.specs.Some.{try_some}
use Rattle.ejection_search.proofs.eject_some.Given as goal

abbrev pub invariant-loop-k : goal.invariant-loop-k
invariant-loop-k l =
    (goal.iterator-loop-k).can_next l.k-iterator
    × Left (try_some l.two (of_instance l.sought.given.now) l.sought.c l.sought.failures.now) None l.best (routes_left l.fn.routes) (routes_left l.k-iterator.iter) l.k-iterator.count
