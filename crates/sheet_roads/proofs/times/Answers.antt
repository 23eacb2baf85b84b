-- `times` meets its contract: what the check does not find alone.
use Rattle.sheet_squares.specs.sheet_format.Form.{times, row_by_row}
use Rattle.sheet_squares.specs.SheetTextReadLaws.{handed_as, seen_then, seen_stop}
use Rattle.sheet_roads.proofs.RoadLaws.{times_none, times_other, times_all}
use Rattle.sheet_roads.proofs.times.Goals as goal

pub returns-in_err-m-clause-read : goal.returns-in_err-m-clause-read
unfolding times
returns-in_err-m-clause-read c = handed_as _ _ _ c.from_residual.ensures.1 (seen_stop row_by_row _ c.in_err-m.ensures)

pub returns-then-m-eq0-clause-read : goal.returns-then-m-eq0-clause-read
unfolding times
returns-then-m-eq0-clause-read c = seen_then row_by_row _ c.in_ok-m.ensures (times_none _ _ c.args.cells.now c.if-m-eq0.true)

pub returns-then-m-n-clause-read : goal.returns-then-m-n-clause-read
unfolding times
returns-then-m-n-clause-read c = seen_then row_by_row _ c.in_ok-m.ensures (times_other _ _ c.if-m-eq0.false c.if-m-n.true)

pub returns-in_err-square-clause-read : goal.returns-in_err-square-clause-read
unfolding times
returns-in_err-square-clause-read c =
    handed_as _ _ _ c.from_residual-in_err-square.ensures.1
    (seen_then row_by_row _ c.in_ok-m.ensures (times_all _ _ c.if-m-eq0.false c.if-m-n.false c.in_err-square.ensures))

pub returns-clause-read : goal.returns-clause-read
unfolding times
returns-clause-read c = seen_then row_by_row _ c.in_ok-m.ensures (times_all _ _ c.if-m-eq0.false c.if-m-n.false c.in_ok-square.ensures)
