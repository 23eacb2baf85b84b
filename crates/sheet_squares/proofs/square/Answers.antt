-- `square` meets its contract: what the check does not find alone.
use Prim.Native.Nat.{◌-◌, ◌+◌, ◌*◌, ◌≤◌}
use mathlib.Core.Path.{◌≡◌, ap}
use native.Mathlib.Omega.{arith}
use lib.ListN.{length}
use borrow.Author.Rules.{rules}
use Rattle.sheet_reader.specs.floats.Whole.{nat}
use Rattle.sheet_reader.specs.SheetTextReadLaws.{handed_as}
use Rattle.sheet_squares.proofs.SquareLaws.{row_more, row_room, rows_end, rows_fault, rows_turn}
use Rattle.sheet_squares.proofs.square.Goals as goal

pub returns-in_err-number_row : goal.returns-in_err-number_row
returns-in_err-number_row c =
    let l = c.loop-row in
    let room : l.row * c.args.n + c.args.n ≤ length l.cells = omega (arith, row_room l.row c.args.n (omega arith), l.auto.cells) in
    handed_as _ _ _ c.from_residual.ensures.1
    (rows_fault c.args.n l.cells (l.row * c.args.n) (c.args.n - l.row) l.invariant (c.args.n - (l.row + 1)) (omega arith) room (c.in_err-number_row.ensures nat (λ v y h. search rules)))

pub loop-row-preserved : goal.loop-row-preserved
loop-row-preserved c =
    let l = c.loop-row in
    let room : l.row * c.args.n + c.args.n ≤ length l.cells = omega (arith, row_room l.row c.args.n (omega arith), l.auto.cells) in
    rows_turn c.args.n l.cells (l.row * c.args.n) (c.args.n - l.row) l.invariant (c.args.n - (l.row + 1)) (omega arith) room ((l.row + 1) * c.args.n) (row_more l.row c.args.n)
    c.number_row.auto.cells (c.in_ok-number_row.ensures nat (λ v y h. search rules))

pub returns : goal.returns
returns c =
    let l = c.loop-row in
    let done : l.row ≡ c.args.n = omega arith in
    rows_end c.args.n l.cells (l.row * c.args.n) (c.args.n - l.row) l.invariant _ (ap (λ k. k * c.args.n) done) (omega arith)
