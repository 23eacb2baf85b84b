-- `to_pool` meets its contract: what the check does not find alone.
use Rattle.std.proofs.Common.{◌≡◌, length, arith, rules, ap, length-take-le}
use Rattle.route_pool.proofs.StartLaws.{route_few}
use Rattle.route_pool.proofs.to_pool.Goals as goal

pub push-requires : goal.push-requires
push-requires g c =
    let few = route_few c.args.routes.lengths.now c.args.routes.stops.now c.args.r c.args.routes.lent c.requires.there in
    let long : length c.loop-c.pool.items ≡ c.loop-c.c-index = rw c.loop-c.invariant (length-take-le _ _ (omega (arith, c.loop-c-test.true))) in
    (search rules, omega (arith, few, long, ap length c.route-route.ensures, c.loop-c-test.true, c.requires.has_room))
