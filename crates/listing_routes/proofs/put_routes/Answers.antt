-- `put_routes` meets its contract: what the check does not find alone.
use Rattle.std.proofs.Common.{rules}
use Rattle.listing_lines.specs.plan.Slices.{length_split}
use Rattle.listing_routes.proofs.LineLaws.{lining_start, lining_stops, lining_prints, lining_room, lining_more, lining_end}
use Rattle.listing_routes.proofs.put_routes.Goals as goal

pub loop-k-init : goal.loop-k-init
loop-k-init c = search (rules, length_split, lining_start)

pub put_route-requires-clause-room : goal.put_route-requires-clause-room
put_route-requires-clause-room c = let s = c.in-Some.ensures.steps in lining_room _ _ _ _ c.loop-k.invariant.1 _ _ s.0 _ s.1

pub put_route-requires-clause-stops : goal.put_route-requires-clause-stops
put_route-requires-clause-stops c = lining_stops _ _ _ _ c.loop-k.invariant.1 _ _ c.in-Some.ensures.steps.0

pub put_route-requires-clause-prints : goal.put_route-requires-clause-prints
put_route-requires-clause-prints c = lining_prints _ _ _ _ c.loop-k.invariant.1 _ _ c.in-Some.ensures.steps.0

pub loop-k-preserved : goal.loop-k-preserved
loop-k-preserved c =
    let s = c.in-Some.ensures.steps in
    ((c.in-Some.ensures.goes.on tt).0, lining_more _ _ _ _ c.loop-k.invariant.1 _ _ s.0 _ _ _ s.1 s.2 c.put_route.ensures)

pub returns : goal.returns
returns c = lining_end _ _ _ _ c.loop-k.invariant.1 c.in-None.ensures.steps.0.0
