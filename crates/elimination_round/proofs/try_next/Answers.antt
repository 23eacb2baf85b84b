-- `try_next` meets its contract: what the check does not find alone.
use mathlib.Core.Path.{◌≡◌, refl}
use Rattle.std.proofs.Common.{rules}
use Rattle.elimination_attempt.specs.local_search.Search.{uncounted}
use Rattle.elimination_attempt.specs.LocalSearchNextLaws.{no_pick}
use Rattle.elimination_round.proofs.NextLaws.{next_attempted, route_kept, route_gone}
use Rattle.elimination_round.proofs.try_next.Goals as goal

pub returns-in_default-clause-round : goal.returns-in_default-clause-round
returns-in_default-clause-round c = no_pick _ _ _ c.pick_after.ensures _ _ _ c.in_default.is

pub without_route-gained-requires-clause-attempted : goal.without_route-gained-requires-clause-attempted
without_route-gained-requires-clause-attempted c = next_attempted c.args.routes.now _ _ c.in-Some.ensures _ refl _ _ c.requires.eliminating

pub returns-then-gained-clause-round : goal.returns-then-gained-clause-round
returns-then-gained-clause-round c =
    let none_yet : c.default.result ≡ uncounted = search rules in
    rw none_yet ((route_gone c.args.routes.now _ _ c.in-Some.ensures _ refl _ _ c.requires.eliminating _ _ c.without_route-gained.ensures.plan c.without_route-gained.ensures.slices c.if-gained.true c.without_route-gained.ensures.kept).0)

pub returns-then-gained-clause-held : goal.returns-then-gained-clause-held
returns-then-gained-clause-held c =
    let none_yet : c.default.result ≡ uncounted = search rules in
    rw none_yet ((route_gone c.args.routes.now _ _ c.in-Some.ensures _ refl _ _ c.requires.eliminating _ _ c.without_route-gained.ensures.plan c.without_route-gained.ensures.slices c.if-gained.true c.without_route-gained.ensures.kept).1)

pub returns-clause-round : goal.returns-clause-round
returns-clause-round c =
    let none_yet : c.default-2.result ≡ uncounted = search rules in
    rw none_yet ((route_kept c.args.routes.now _ _ c.in-Some.ensures _ refl _ _ c.requires.eliminating _ _ c.without_route-gained.ensures.plan c.without_route-gained.ensures.slices c.if-gained.false).0)

pub returns-clause-held : goal.returns-clause-held
returns-clause-held c =
    let none_yet : c.default-2.result ≡ uncounted = search rules in
    rw none_yet ((route_kept c.args.routes.now _ _ c.in-Some.ensures _ refl _ _ c.requires.eliminating _ _ c.without_route-gained.ensures.plan c.without_route-gained.ensures.slices c.if-gained.false).1)
