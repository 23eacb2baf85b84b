-- What the loops of `places::place_rows` keep.
use Prim.Native.Nat.{◌-◌}
use Rattle.sheet_reader.proofs.PlaceLaws.{behind}
use Rattle.sheet_reader.specs.Cells.{Keeps, of_columns, columns}
use Rattle.sheet_cells.specs.sheet_format.Form.{place}
use Rattle.sheet_cells.specs.sheet_text.Text.{repeat}
use Rattle.sheet_cells.specs.sheet_text.Told.{seen}
use Rattle.sheet_cells.specs.SheetTextReadLaws.{Left}
use Rattle.sheet_reader.proofs.places.place_rows.Given as goal

abbrev pub invariant-loop-i : goal.invariant-loop-i
invariant-loop-i l = record {
  left : Left (seen columns (repeat l.n (λ l. place))) l.initial.text (seen (behind l.i (of_columns l.columns)) (repeat (l.n - l.i) (λ l. place))) l.text;
  kept : Keeps l.initial.columns l.columns;
}
