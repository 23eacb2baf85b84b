-- `distances` meets its contract: what the check does not find alone.
use Rattle.sheet_squares.specs.sheet_format.Form.{distances, row_by_row}
use Rattle.sheet_squares.specs.SheetTextReadLaws.{handed_as, seen_then, seen_stop}
use Rattle.sheet_roads.proofs.distances.Goals as goal

pub returns-in_err-heading : goal.returns-in_err-heading
unfolding distances
returns-in_err-heading c = handed_as _ _ _ c.from_residual.ensures.1 (seen_stop row_by_row _ c.in_err-heading.ensures)

pub returns : goal.returns
unfolding distances
returns c = seen_then row_by_row _ c.in_ok-heading.ensures c.square.ensures
