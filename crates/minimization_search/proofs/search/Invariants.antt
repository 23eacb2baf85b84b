-- What the loops of `search` keep.
use mathlib.Core.Path.{◌≡◌}
use lib.ListN.{length, take}
use Rattle.minimization_round.specs.plan.Plan.{split, drop_zero}
use Rattle.minimization_round.specs.route_order.Order.{following}
use Rattle.minimization_round.specs.ejection_pool.Running.{allowed, of_minimisation}
use Rattle.minimization_round.specs.route_cost.Route.{cost}
use Rattle.minimization_round.specs.LocalSearchSearchLaws.{Rounding, Trying}
use Rattle.minimization_round.specs.pool_cost.Attempt.{attempt}
use Rattle.minimization_search.proofs.search.Given as goal

abbrev pub invariant-loop-pick : goal.invariant-loop-pick
invariant-loop-pick l = let p = of_minimisation l.given in
    Trying (attempt (allowed l.given.allowance) p) l.given.allowance.limit l.given.instance.now.fleet.net.roads.size l.initial.lengths l.initial.stops l.initial.counts l.count l.lengths l.stops l.counts l.last
    × (l.round.before ≡ cost p (split (take l.count l.initial.lengths) l.initial.stops))

abbrev pub decreases-loop-pick : goal.decreases-loop-pick
decreases-loop-pick l = length (following (take l.count l.lengths) l.last)

abbrev pub invariant-search : goal.invariant-search
invariant-search l = Rounding (attempt (allowed l.given.allowance) (of_minimisation l.given)) l.given.allowance.limit l.given.instance.now.fleet.net.roads.size l.initial.lengths l.initial.stops l.lengths l.stops l.counts

abbrev pub decreases-search : goal.decreases-search
decreases-search l = length (drop_zero l.lengths)
