-- What the loop of `look_over` keeps.
use Rattle.std.proofs.Common.{None}
use Rattle.reinsertion_candidates.specs.evaluation.Given.{of_instance}
use Rattle.reinsertion_candidates.specs.plan.Given.{routes_left}
use Rattle.reinsertion_candidates.specs.plan.Left.{Left}
use Rattle.reinsertion_candidates.specs.Place.{look_through}
use Rattle.reinsertion.proofs.look_over.Given as goal

abbrev pub invariant-loop-k : goal.invariant-loop-k
invariant-loop-k l =
    (goal.iterator-loop-k).can_next l.k-iterator
    × Left (look_through (of_instance l.given) l.stop.c l.stop.added l.stop.saved) None l.best (routes_left l.fn.routes) (routes_left l.k-iterator.iter) l.k-iterator.count
