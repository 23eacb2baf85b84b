-- `draw_rows` meets its contract: what the check does not find alone.
use Prim.Native.Nat.{ℕ, ◌-◌, ◌+◌}
use mathlib.Core.Path.{◌≡◌, refl}
use native.Mathlib.Omega.{arith}
use lib.ListN.{length}
use borrow.Author.Rules.{rules}
use Rattle.sheet_draws.proofs.DrawLaws.{none_yet}
use Rattle.sheet_reader.specs.SheetTextReadLaws.{handed_as, resumed}
use Rattle.sheet_reader.proofs.FillLaws.{row_end, row_fault, row_turn}
use Rattle.sheet_draws.proofs.draw_rows.Goals as goal

pub loop-cell-init : goal.loop-cell-init
loop-cell-init c = let all : length c.args.cells.now - 0 ≡ length c.args.cells.now = omega arith in record { read = rw all (none_yet c.args.cells.now _ _) }

pub returns-in_err-cell : goal.returns-in_err-cell
returns-in_err-cell c = let l = c.loop-cell in
    handed_as _ _ _ c.from_residual.ensures.1 (row_fault (λ (v : ℕ). v) _ _ l.cell-index _ l.invariant.read (length c.args.cells.now - (l.cell-index + 1)) (omega arith) (search (rules, resumed)))

pub loop-cell-preserved : goal.loop-cell-preserved
loop-cell-preserved c = let l = c.loop-cell in record {
  read = row_turn (λ (v : ℕ). v) _ _ l.cell-index _ l.invariant.read (length c.args.cells.now - (l.cell-index + 1)) (omega arith) (l.cell-index + 1) refl (omega arith) _ (search (rules, resumed)) refl;
}

pub returns : goal.returns
returns c = let l = c.loop-cell in row_end (λ (v : ℕ). v) _ _ l.cell-index _ l.invariant.read (omega arith) (omega arith)
