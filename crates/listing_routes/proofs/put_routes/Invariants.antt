-- What the loop of `put_routes` keeps.
use Rattle.listing_lines.specs.models.Lent.{of_problem}
use Rattle.listing_lines.specs.plan.Given.{routes_left}
use Rattle.listing_routes.proofs.LineLaws.{Lining}
use Rattle.listing_routes.proofs.put_routes.Given as goal

abbrev pub invariant-loop-k : goal.invariant-loop-k
invariant-loop-k l =
    (goal.iterator-loop-k).can_next l.k-iterator
    × Lining (of_problem l.problem) (routes_left l.fn.routes) l.initial.page l.page (routes_left l.k-iterator.iter) l.k-iterator.count
