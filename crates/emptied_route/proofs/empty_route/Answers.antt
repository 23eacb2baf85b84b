-- `empty_route` meets its contract: what the check does not find alone.
use Rattle.emptied_route.proofs.EmptiedLaws.{attempt_count, front_routes, front_few, front_free, front_places, whole_lent, empty_stuck, empty_gained, empty_accepted}
use Rattle.emptied_route.proofs.empty_route.Goals as goal

pub keep_route-left-requires-clause-room : goal.keep_route-left-requires-clause-room
keep_route-left-requires-clause-room c = attempt_count _ _ _ c.requires

pub move_into-sum-requires-clause-routes : goal.move_into-sum-requires-clause-routes
move_into-sum-requires-clause-routes c = front_routes _ c.args.routes.now _ c.requires c.keep_route-left.result.now c.keep_route-left.ensures c.erase_route.new.routes c.erase_route.ensures.rest c.erase_route.ensures.plan c.erase_route.ensures.kept

pub move_into-sum-requires-clause-few : goal.move_into-sum-requires-clause-few
move_into-sum-requires-clause-few c = front_few _ c.args.routes.now _ c.requires c.keep_route-left.result.now c.keep_route-left.ensures c.erase_route.new.routes c.erase_route.ensures.rest c.erase_route.ensures.plan c.erase_route.ensures.kept

pub move_into-sum-requires-clause-free : goal.move_into-sum-requires-clause-free
move_into-sum-requires-clause-free c = front_free _ c.args.routes.now _ c.requires c.keep_route-left.result.now c.keep_route-left.ensures c.erase_route.new.routes c.erase_route.ensures.rest c.erase_route.ensures.plan c.erase_route.ensures.kept

pub move_into-sum-requires-clause-places : goal.move_into-sum-requires-clause-places
move_into-sum-requires-clause-places c = front_places _ c.args.routes.now _ c.requires c.keep_route-left.result.now c.keep_route-left.ensures c.erase_route.new.routes c.erase_route.ensures.rest c.erase_route.ensures.plan c.erase_route.ensures.kept

pub invariant_of-routes : goal.invariant_of-routes
invariant_of-routes c = record { lent = whole_lent _ c.args.routes.now _ c.requires c.keep_route-left.result.now c.keep_route-left.ensures c.erase_route.new.routes c.erase_route.ensures.rest c.erase_route.ensures.plan c.erase_route.ensures.kept c.move_into-sum.new.lengths c.move_into-sum.auto.lengths _ c.move_into-sum.ensures.lent }

pub returns-in_default-clause-plan : goal.returns-in_default-clause-plan
returns-in_default-clause-plan c = empty_stuck _ c.args.routes.now _ c.requires c.keep_route-left.result.now c.keep_route-left.ensures c.erase_route.new.routes c.erase_route.ensures.rest c.erase_route.ensures.plan c.erase_route.ensures.kept c.move_into-sum.new.lengths c.move_into-sum.auto.lengths _ c.move_into-sum.result c.move_into-sum.new.stops c.move_into-sum.ensures.moved c.in_default.is

pub returns-clause-plan : goal.returns-clause-plan
returns-clause-plan c = empty_gained _ c.args.routes.now _ c.requires c.keep_route-left.result.now c.keep_route-left.ensures c.erase_route.new.routes c.erase_route.ensures.rest c.erase_route.ensures.plan c.erase_route.ensures.kept c.move_into-sum.new.lengths c.move_into-sum.auto.lengths _ c.move_into-sum.result c.move_into-sum.new.stops c.move_into-sum.ensures.moved _ c.in-Some.is _ c.args.given.now.floor_is

pub returns-clause-accepted : goal.returns-clause-accepted
returns-clause-accepted c = λ _. empty_accepted _ c.args.routes.now _ c.requires c.keep_route-left.result.now c.keep_route-left.ensures c.erase_route.new.routes c.erase_route.ensures.rest c.erase_route.ensures.plan c.erase_route.ensures.kept c.move_into-sum.new.lengths c.move_into-sum.auto.lengths _ c.move_into-sum.result c.move_into-sum.new.stops c.move_into-sum.ensures.moved _ c.in-Some.is c.move_into-sum.ensures.sum
