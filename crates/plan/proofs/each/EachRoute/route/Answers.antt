-- `route` meets its contract: what the check does not find alone.
use Rattle.std.proofs.Common.{rules}
use Rattle.plan.proofs.PlanLaws.{place_laws}
use Rattle.plan.specs.Slices.{route_part}
use Rattle.plan.proofs.each.EachRoute.route.Goals as goal

pub overflow_add-result : goal.overflow_add-result
overflow_add-result c = search (rules, place_laws)

pub offset_bounds-self-at : goal.offset_bounds-self-at
offset_bounds-self-at c = search (rules, place_laws)

pub slice_bounds-result-end : goal.slice_bounds-result-end
slice_bounds-result-end c = search (rules, place_laws)

pub returns : goal.returns
returns c = search (rules, route_part)
