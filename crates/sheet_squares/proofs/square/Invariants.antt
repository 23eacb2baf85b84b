-- What the loops of `square` keep.
use Prim.Native.Nat.{◌-◌, ◌*◌}
use Rattle.sheet_squares.proofs.SquareLaws.{rows_behind}
use Rattle.sheet_reader.specs.sheet_format.Form.{row_by_row}
use Rattle.sheet_reader.specs.sheet_text.Text.{repeat, line}
use Rattle.sheet_reader.specs.sheet_text.Told.{seen}
use Rattle.sheet_reader.specs.SheetTextReadLaws.{Left}
use Rattle.sheet_squares.proofs.square.Given as goal

abbrev pub invariant-loop-row : goal.invariant-loop-row
invariant-loop-row z = Left (seen row_by_row (repeat z.n (λ l. line z.n))) z.initial.text (seen (rows_behind z.cells (z.row * z.n)) (repeat (z.n - z.row) (λ l. line z.n))) z.text
