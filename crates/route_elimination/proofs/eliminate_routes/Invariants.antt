-- What the loops of `eliminate_routes` keep.
use mathlib.Core.Path.{◌≡◌}
use lib.ListN.{length, take}
use Rattle.elimination_round.specs.plan.Plan.{drop_zero}
use Rattle.elimination_round.specs.route_order.Order.{following}
use Rattle.elimination_round.specs.local_search.Search.{uncounted}
use Rattle.elimination_round.specs.LocalSearchSearchLaws.{Rounding, Trying}
use Rattle.elimination_round.specs.elimination_moves.Eliminate.{attempt}
use Rattle.elimination_round.specs.evaluation.Given.{of_instance}
use Rattle.route_elimination.proofs.eliminate_routes.Given as goal

abbrev pub invariant-loop-pick : goal.invariant-loop-pick
invariant-loop-pick l = Trying (attempt (of_instance l.fn.given)) 0 l.fn.given.fleet.net.roads.size l.initial.lengths l.initial.stops uncounted l.count l.lengths l.stops uncounted l.last
    × (length l.work ≡ length l.initial.work)

abbrev pub decreases-loop-pick : goal.decreases-loop-pick
decreases-loop-pick l = length (following (take l.count l.lengths) l.last)

abbrev pub invariant-search : goal.invariant-search
invariant-search l = Rounding (attempt (of_instance l.fn.given)) 0 l.fn.given.fleet.net.roads.size l.initial.lengths l.initial.stops l.lengths l.stops uncounted
    × (length l.work ≡ length l.initial.work)

abbrev pub decreases-search : goal.decreases-search
decreases-search l = length (drop_zero l.lengths)
