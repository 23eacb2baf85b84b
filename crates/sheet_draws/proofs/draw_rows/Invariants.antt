-- What the loops of `draw_rows` keep.
use Prim.Native.Nat.{ℕ, ◌-◌}
use lib.ListN.{length}
use Rattle.sheet_reader.specs.Cells.{front}
use Rattle.sheet_reader.specs.sheet_text.Text.{before, lf, number, repeat}
use Rattle.sheet_reader.specs.sheet_text.Told.{seen}
use Rattle.sheet_reader.specs.SheetTextReadLaws.{Left}
use Rattle.sheet_draws.proofs.draw_rows.Given as goal

abbrev pub invariant-loop-cell : goal.invariant-loop-cell
invariant-loop-cell l = record {
  read : Left (repeat (length l.initial.cells) (λ left. before lf number)) l.initial.text (seen (front (λ (v : ℕ). v) l.cells l.cell-index) (repeat (l.cell-index-end - l.cell-index) (λ left. before lf number))) l.text;
}
