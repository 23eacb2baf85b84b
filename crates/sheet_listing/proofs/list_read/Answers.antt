-- `list_read` meets its contract: what the check does not find alone.
use native.Mathlib.Nat.{le_of_eq, le_trans}
use native.Mathlib.Omega.{arith}
use mathlib.Core.Path.{sym}
use Rattle.sheet_parts.specs.sheet_reader.Cells.{room_kept}
use Rattle.sheet_parts.specs.SheetLawsRead.{sheet_holds}
use Rattle.sheet_parts.specs.SheetAnswersListedLaws.{refusal_room, written_as, reader_refuses, reader_goes_on}
use Rattle.sheet_listing.proofs.list_read.Goals as goal

pub put_refused-requires : goal.put_refused-requires
put_refused-requires c = refusal_room _ _ c.requires.in_bounds.0

pub list_parts-requires : goal.list_parts-requires
list_parts-requires c = record {
  in_bounds = c.requires.in_bounds;
  in_bounds_2 = (le_trans c.requires.in_bounds_2.0 (le_of_eq (sym c.sheet.auto.lengths)), le_trans c.requires.in_bounds_2.1 (le_of_eq (sym c.sheet.auto.stops)), le_trans c.requires.in_bounds_2.2 (le_of_eq (sym c.sheet.auto.tape)));
  column_room = room_kept c.requires.column_room c.in-Ok.ensures.kept (omega arith);
  in_bounds_3 = (le_trans c.requires.in_bounds_3.0 (le_of_eq (sym c.sheet.auto.distances)), le_trans c.requires.in_bounds_3.1 (le_of_eq (sym c.sheet.auto.times)));
  n_bound = c.in-Ok.ensures.sheet_within;
  short = (sheet_holds _ _ _ _ (sym c.in-Ok.ensures.result_after)).short;
}

pub returns-in-Err-clause-written : goal.returns-in-Err-clause-written
returns-in-Err-clause-written c = written_as c.put_refused.ensures (reader_refuses _ _ c.in-Err.ensures.result_after)

pub returns-in-Ok-clause-written : goal.returns-in-Ok-clause-written
returns-in-Ok-clause-written c = written_as c.list_parts.ensures (reader_goes_on _ _ _ c.in-Ok.ensures.result_after)
