-- `next_pick` meets its contract: what the check does not find alone.
use Rattle.std.proofs.Common.{rules, tests, ◌∙◌}
use Rattle.std.proofs.lemmas.Iterator.{YieldsList-from_slice, YieldsList-from_map}
use Rattle.std.proofs.lemmas.Iterator.Consumers.{YieldsList-at, YieldsList-from_enumerate, YieldsList-from_filter, reduce_from_yields_List}
use Rattle.route_order.specs.declared.Pick.{Pick}
use Rattle.route_order.specs.Order.{is_after}
use Rattle.route_order.proofs.OrderLaws.{pick_of, lesser, least_after}
use Rattle.route_order.proofs.next_pick.Goals as goal

pub returns : goal.returns
unfolding is_after
returns c =
    reduce_from_yields_List lesser c.filter.result c.min.result c.min.ensures.ran
    (YieldsList-from_filter _ (λ (p : Pick). is_after c.args.last p.route p.length)
    (YieldsList-at c.filter.ensures.source
    (YieldsList-from_map _ pick_of
    (YieldsList-at c.map.ensures.source (YieldsList-from_enumerate (YieldsList-at c.enumerate.ensures.source (YieldsList-from_slice c.args.lengths.now cc)) c.enumerate.ensures.count))
    c.map.ensures.closure (λ x r q k. search (rules, tests))))
    c.filter.ensures.closure (λ x b q k. search (rules, tests)))
    ∙ least_after c.args.lengths.now c.args.last
