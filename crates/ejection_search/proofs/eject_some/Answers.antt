-- `eject_some` meets its contract: what the check does not find alone.
use Rattle.std.proofs.Common.{rules}
use Rattle.route_ejection.specs.plan.Slices.{length_split}
use Rattle.route_ejection.specs.plan.Left.{left_start, left_there, left_is, left_all, left_more, left_end}
use Rattle.ejection_search.specs.Some.{eject_some}
use Rattle.ejection_search.proofs.SearchLaws.{part_short}
use Rattle.ejection_search.proofs.eject_some.Goals as goal

pub loop-k-init : goal.loop-k-init
loop-k-init c = search (rules, length_split, left_start)

pub try_some-best-requires-clause-stops : goal.try_some-best-requires-clause-stops
try_some-best-requires-clause-stops c = left_all _ _ _ _ c.loop-k.invariant.1 _ _ c.in-Some.ensures.steps.0 c.requires.stops

pub try_some-best-requires-clause-room : goal.try_some-best-requires-clause-room
try_some-best-requires-clause-room c =
    let g = c.loop-k.invariant.1 in
    let s = c.in-Some.ensures.steps.0 in
    let short = part_short _ _ c.args.routes.lent.inside _ (left_there _ _ _ _ g _ _ s) (left_is _ _ _ _ g _ _ s) in
    search (rules, short)

pub loop-k-preserved : goal.loop-k-preserved
loop-k-preserved c =
    let s = c.in-Some.ensures.steps in
    ((c.in-Some.ensures.goes.on tt).0, left_more _ _ _ _ c.loop-k.invariant.1 _ _ s.0 _ _ _ s.1 s.2 c.try_some-best.ensures)

pub returns : goal.returns
unfolding eject_some
returns c = left_end _ _ _ _ c.loop-k.invariant.1 c.in-None.ensures.steps.0.0
