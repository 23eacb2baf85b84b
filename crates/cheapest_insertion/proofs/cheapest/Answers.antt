-- `cheapest` meets its contract: what the check does not find alone.
use Rattle.std.proofs.Common.{rules}
use Rattle.route_insertion.specs.insertion.Cheapest.{cheapest}
use Rattle.route_insertion.specs.plan.Slices.{length_split}
use Rattle.route_insertion.specs.plan.Left.{left_start, left_all, left_more, left_end}
use Rattle.cheapest_insertion.proofs.cheapest.Goals as goal

pub loop-k-init : goal.loop-k-init
loop-k-init c = search (rules, length_split, left_start)

pub try_route-best-requires-clause-stops : goal.try_route-best-requires-clause-stops
try_route-best-requires-clause-stops c = left_all _ _ _ _ c.loop-k.invariant.1 _ _ c.in-Some.ensures.steps.0 c.requires.stops

pub loop-k-preserved : goal.loop-k-preserved
loop-k-preserved c =
    let s = c.in-Some.ensures.steps in
    ((c.in-Some.ensures.goes.on tt).0, left_more _ _ _ _ c.loop-k.invariant.1 _ _ s.0 _ _ _ s.1 s.2 c.try_route-best.ensures)

pub returns : goal.returns
unfolding cheapest
returns c = left_end _ _ _ _ c.loop-k.invariant.1 c.in-None.ensures.steps.0.0
