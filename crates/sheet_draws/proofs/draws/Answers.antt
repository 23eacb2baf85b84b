-- `draws` meets its contract: what the check does not find alone.
use Prim.Native.Nat.{◌≤◌}
use mathlib.Core.Path.{sym}
use native.Mathlib.Omega.{arith}
use lib.ListN.{length}
use lib.Seq.{length-take-le}
use Rattle.sheet_draws.proofs.DrawLaws.{draws_read, draws_kept}
use Rattle.sheet_reader.specs.sheet_format.Form.{draws}
use Rattle.sheet_reader.proofs.SectionLaws.{count_within}
use Rattle.sheet_reader.specs.SheetTextReadLaws.{handed_as, then, stop}
use Rattle.sheet_draws.proofs.draws.Goals as goal

pub slice_bounds-draw_rows-end : goal.slice_bounds-draw_rows-end
slice_bounds-draw_rows-end c = omega (arith, (count_within _ _ _ _ c.in_ok-m.ensures).1, c.requires)

pub slice_bounds-draw_rows-end-2 : goal.slice_bounds-draw_rows-end-2
slice_bounds-draw_rows-end-2 c = sym (length-take-le _ _ (omega (arith, (count_within _ _ _ _ c.in_ok-m.ensures).1, c.requires)))

pub returns-in_err-m-clause-read : goal.returns-in_err-m-clause-read
unfolding draws
returns-in_err-m-clause-read c = handed_as _ _ _ c.from_residual.ensures.1 (stop _ c.in_err-m.ensures)

pub returns-in_err-draw_rows-clause-read : goal.returns-in_err-draw_rows-clause-read
unfolding draws
returns-in_err-draw_rows-clause-read c =
    let room : c.in_ok-m.m ≤ length c.args.cells.now = omega (arith, (count_within _ _ _ _ c.in_ok-m.ensures).1, c.requires) in
    handed_as _ _ _ c.from_residual-in_err-draw_rows.ensures.1 (then _ c.in_ok-m.ensures (draws_read _ _ room c.in_err-draw_rows.ensures))

pub returns-clause-read : goal.returns-clause-read
unfolding draws
returns-clause-read c =
    let room : c.in_ok-m.m ≤ length c.args.cells.now = omega (arith, (count_within _ _ _ _ c.in_ok-m.ensures).1, c.requires) in
    then _ c.in_ok-m.ensures (draws_kept _ _ room _ c.draw_rows.auto.cells c.in_ok-draw_rows.ensures)

pub returns-clause-at_most : goal.returns-clause-at_most
returns-clause-at_most c = (count_within _ _ _ _ c.in_ok-m.ensures).1
