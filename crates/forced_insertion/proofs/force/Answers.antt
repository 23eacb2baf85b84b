-- `force` meets its contract: what the check does not find alone.
use native.Mathlib.Omega.{arith}
use Rattle.cheapest_insertion.specs.local_search.Planned.{planned_stops}
use Rattle.forced_insertion.proofs.PoolLaws.{read_number, leaves_inside, room_planned, forced, stuck}
use Rattle.forced_insertion.proofs.force.Goals as goal

pub eject-found-requires-clause-stops : goal.eject-found-requires-clause-stops
eject-found-requires-clause-stops c = rw c.each.ensures (planned_stops _ _ c.requires.planned)

pub eject-found-requires-clause-room : goal.eject-found-requires-clause-room
eject-found-requires-clause-room c = omega (arith, read_number c.each.result c.args.routes.now c.each.ensures, c.args.routes.now.lent.inside, c.requires.work_room)

pub returns-in_default-clause-plan : goal.returns-in_default-clause-plan
returns-in_default-clause-plan c = search (stuck, rw c.each.ensures at c.eject-found.ensures, c.in_default.is)

pub make_room-requires : goal.make_room-requires
make_room-requires c =
    (omega arith, (leaves_inside _ _ _ c.args.routes.now (rw c.each.ensures at c.eject-found.ensures) c.in-Some.is, c.requires.pool_room))

pub perturb-requires-clause-planned : goal.perturb-requires-clause-planned
perturb-requires-clause-planned c = room_planned _ _ _ _ (rw c.each.ensures at c.eject-found.ensures) c.in-Some.is c.make_room.ensures c.requires.place c.requires.planned

pub returns-clause-plan : goal.returns-clause-plan
returns-clause-plan c = forced _ _ _ _ (rw c.each.ensures at c.eject-found.ensures) c.in-Some.is c.make_room.ensures _ _ c.perturb.ensures.plan c.perturb.ensures.draws
