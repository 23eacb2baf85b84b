-- `move_stop` meets its contract: what the check does not find alone.
use Rattle.stop_moves.proofs.MoveLaws.{each_room, stop_stays, stop_position, stop_moved, stop_kept}
use Rattle.stop_moves.proofs.move_stop.Goals as goal

pub place-requires-clause-room : goal.place-requires-clause-room
place-requires-clause-room c = each_room _ c.args.routes.now c.each.result c.each.ensures c.requires.room

pub returns-in_err-found-clause-moved : goal.returns-in_err-found-clause-moved
returns-in_err-found-clause-moved c = rw c.from_residual.ensures (stop_stays _ _ c.args.routes.now c.requires.asked c.each.result c.each.ensures _ c.place.ensures c.in_err-found.was)

pub put_in-requires-clause-has_position : goal.put_in-requires-clause-has_position
put_in-requires-clause-has_position c = stop_position _ _ c.args.routes.now c.requires.asked c.each.result c.each.ensures _ c.place.ensures _ c.in_ok-found.was

pub returns-clause-moved : goal.returns-clause-moved
returns-clause-moved c = stop_moved _ _ c.args.routes.now c.requires.asked c.each.result c.each.ensures _ c.place.ensures _ c.in_ok-found.was _ c.put_in.ensures

pub returns-clause-grown : goal.returns-clause-grown
returns-clause-grown c = stop_kept _ _ c.args.routes.now c.requires.asked c.each.result c.each.ensures _ c.place.ensures _ c.in_ok-found.was _ c.put_in.ensures c.requires.room
