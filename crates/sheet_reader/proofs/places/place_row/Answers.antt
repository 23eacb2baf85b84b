-- `places::place_row` meets its contract: what the check does not find alone.
use mir.Facts.{to_z-of_z}
use mir.Syntax.{w32}
use borrow.Author.Rules.{rules}
use Rattle.sheet_reader.proofs.PlaceLaws.{place_filled}
use Rattle.sheet_reader.proofs.places.place_row.Goals as goal

pub returns-clause-read : goal.returns-clause-read
returns-clause-read c = place_filled _ _ c.requires c.in_ok-place.ensures (to_z-of_z {w = w32} (search rules)) c.ready_cell.ensures c.due_cell.ensures c.penalty_cell.ensures c.flags_cell.ensures
