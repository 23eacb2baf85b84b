-- `try_out` meets its contract: what the check does not find alone.
use Rattle.ejection_positions.specs.ejection.Asked.{kept_stops}
use Rattle.route_ejection.proofs.LeaveLaws.{out_more, out_tried}
use Rattle.route_ejection.proofs.try_out.Goals as goal

pub returns-then-fails_more : goal.returns-then-fails_more
returns-then-fails_more c = out_more _ _ _ _ _ _ _ _ _ _ c.failure_sum-failed.ensures c.fails_more.ensures c.if-fails_more.true

pub try_left-requires-clause-stops : goal.try_left-requires-clause-stops
try_left-requires-clause-stops c = rw c.keep_part-left.ensures (kept_stops _ _ _ _ c.requires.leave.0 c.requires.leave.1 c.requires.stops)

pub returns : goal.returns
returns c = out_tried _ _ _ _ _ _ _ _ _ _ c.failure_sum-failed.ensures c.fails_more.ensures _ c.if-fails_more.false
    (rw c.keep_part-left.ensures at c.try_left.ensures)
