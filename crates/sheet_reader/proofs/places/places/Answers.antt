-- `places::places` meets its contract: what the check does not find alone.
use Rattle.sheet_reader.specs.Cells.{columns, keeps_same, room_kept}
use Rattle.sheet_reader.proofs.SectionLaws.{count_within}
use Rattle.sheet_cells.specs.SheetTextReadLaws.{handed_as, seen_then, seen_stop}
use Rattle.sheet_cells.specs.sheet_format.Form.{places}
use Rattle.sheet_reader.proofs.places.places.Goals as goal

pub place_rows-requires : goal.place_rows-requires
place_rows-requires c = room_kept c.requires (keeps_same c.args.columns.now) (count_within _ _ _ _ c.in_ok-n.ensures).1

pub returns-in_err-n-clause-read : goal.returns-in_err-n-clause-read
unfolding places
returns-in_err-n-clause-read c = handed_as _ _ _ c.from_residual.ensures.1 (seen_stop columns _ c.in_err-n.ensures)

pub returns-in_err-place_rows-clause-read : goal.returns-in_err-place_rows-clause-read
unfolding places
returns-in_err-place_rows-clause-read c =
    handed_as _ _ _ c.from_residual-in_err-place_rows.ensures.1 (seen_then columns _ c.in_ok-n.ensures c.in_err-place_rows.ensures.read)

pub returns-clause-read : goal.returns-clause-read
unfolding places
returns-clause-read c = seen_then columns _ c.in_ok-n.ensures c.in_ok-place_rows.ensures.read

pub returns-clause-at_most : goal.returns-clause-at_most
returns-clause-at_most c = (count_within _ _ _ _ c.in_ok-n.ensures).1
