-- What the loops of `rows::number_row` keep.
use Prim.Native.Nat.{ℕ, ◌-◌, ◌<◌, ◌^◌}
use mathlib.Core.Path.{◌≡◌}
use mathlib.Core.List.{map}
use lib.ListN.{length}
use Rattle.sheet_cells.specs.sheet_text.Text.{before, number, ending, repeat, line}
use Rattle.sheet_cells.specs.sheet_text.Told.{seen}
use Rattle.sheet_cells.specs.SheetTextReadLaws.{Left}
use Rattle.sheet_reader.specs.Cells.{front}
use Rattle.sheet_reader.proofs.rows.number_row.Given as goal

abbrev pub invariant-loop-i : goal.invariant-loop-i
invariant-loop-i g l = record {
  read : (f : ℕ → _) → ((v : ℕ) (y : _) → v < 2 ^ 32 → goal.F-post g l.cell v y → y ≡ f v)
      → Left (seen (map f) (line l.k)) l.initial.text (seen (front f l.cells l.i) (repeat (l.k - l.i) (λ left. before (ending left) number))) l.text;
  size : l.k ≡ length l.cells;
}
