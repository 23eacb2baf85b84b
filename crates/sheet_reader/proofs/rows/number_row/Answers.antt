-- `rows::number_row` meets its contract: what the check does not find alone.
use Prim.Native.Nat.{◌-◌, ◌+◌}
use mathlib.Core.Path.{refl}
use lib.ListN.{length}
use native.Mathlib.Omega.{arith}
use borrow.Author.Rules.{rules}
use Rattle.sheet_cells.specs.SheetTextReadLaws.{handed_as, resumed}
use Rattle.sheet_reader.proofs.FillLaws.{ended, row_end, row_fault, row_turn}
use Rattle.sheet_reader.proofs.rows.number_row.Goals as goal

pub returns-in_err-v : goal.returns-in_err-v
returns-in_err-v g c f h =
    let l = c.loop-i in
    handed_as _ _ _ c.from_residual.ensures.1
    (row_fault f _ _ l.i _ (l.invariant.read f h) (length c.args.cells.now - (l.i + 1)) (omega arith) (ended _ _ c.ending.ensures (search (rules, resumed))))

pub loop-i-preserved : goal.loop-i-preserved
loop-i-preserved g c = let l = c.loop-i in record {
  read = λ f h.
      row_turn f _ _ l.i _ (l.invariant.read f h) (length c.args.cells.now - (l.i + 1)) (omega arith) (l.i + 1) refl (omega (arith, l.invariant.size)) _
      (ended _ _ c.ending.ensures (search (rules, resumed))) (h _ _ (search rules) c.cell.ensures);
  size = search rules;
}

pub returns : goal.returns
returns g c f h = let l = c.loop-i in row_end f _ _ l.i _ (l.invariant.read f h) (omega (arith, l.invariant.size)) (omega arith)
