-- `one_turn` meets its contract: what the check does not find alone.
use native.Mathlib.Nat.{le_refl}
use Rattle.pool_turn.proofs.TurnLaws.{off, top_place, room_left, top_failures, turn_forcing, popped, turn_placed, turn_forced}
use Rattle.pool_turn.proofs.one_turn.Goals as goal

pub place-requires-clause-place : goal.place-requires-clause-place
place-requires-clause-place c = top_place c.args.routes.now c.requires.running (off c.pop.ensures.items c.unwrap-c.ensures)

pub place-requires-clause-has_room : goal.place-requires-clause-has_room
place-requires-clause-has_room c = room_left c.args.routes.now c.requires.running (off c.pop.ensures.items c.unwrap-c.ensures)

pub returns-then-place-clause-plan : goal.returns-then-place-clause-plan
returns-then-place-clause-plan c = popped _ _ _ _ (off c.pop.ensures.items c.unwrap-c.ensures) (turn_placed _ _ _ _ c.pop.new.self _ c.place.ensures.found c.if-place.true c.place.ensures.plan)

pub bounds-failures-c : goal.bounds-failures-c
bounds-failures-c c = top_failures c.args.routes.now c.requires.running (off c.pop.ensures.items c.unwrap-c.ensures)

pub bounds-failures-c-2 : goal.bounds-failures-c-2
bounds-failures-c-2 c = top_failures c.args.routes.now c.requires.running (off c.pop.ensures.items c.unwrap-c.ensures)

pub force-requires : goal.force-requires
force-requires c = turn_forcing c.args.routes.now c.requires.running (off c.pop.ensures.items c.unwrap-c.ensures) (le_refl 1) c.requires.step c.place.ensures.found c.if-place.false c.place.ensures.plan

pub returns-clause-plan : goal.returns-clause-plan
returns-clause-plan c = popped _ _ _ _ (off c.pop.ensures.items c.unwrap-c.ensures) (turn_forced _ _ _ _ _ _ c.place.ensures.found c.if-place.false c.place.ensures.plan c.force.ensures.plan)
