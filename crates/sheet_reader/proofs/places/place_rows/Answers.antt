-- `places::place_rows` meets its contract: what the check does not find alone.
use Prim.Native.Nat.{◌+◌, ◌-◌}
use mathlib.Core.Path.{◌≡◌}
use native.Mathlib.Omega.{arith}
use Rattle.sheet_reader.specs.Cells.{keeps_same, keeps_on, room_kept}
use Rattle.sheet_reader.proofs.PlaceLaws.{places_start, places_end, places_fault, places_turn}
use Rattle.sheet_cells.specs.SheetTextReadLaws.{handed_as}
use Rattle.sheet_reader.proofs.places.place_rows.Goals as goal

pub loop-i-init : goal.loop-i-init
loop-i-init c = let all : c.args.n - 0 ≡ c.args.n = omega arith in record { left = rw all (places_start _ _ _); kept = keeps_same _ }

pub place_row-requires : goal.place_row-requires
place_row-requires c = room_kept c.requires c.loop-i.invariant.kept (omega arith)

pub returns-in_err-place_row-clause-read : goal.returns-in_err-place_row-clause-read
returns-in_err-place_row-clause-read c = let l = c.loop-i in
    handed_as _ _ _ c.from_residual.ensures.1 (places_fault _ l.i (c.args.n - l.i) l.invariant.left (c.args.n - (l.i + 1)) (omega arith) c.in_err-place_row.ensures.read)

pub loop-i-preserved : goal.loop-i-preserved
loop-i-preserved c = let l = c.loop-i in record {
  left = places_turn _ l.i (c.args.n - l.i) l.invariant.left (c.args.n - (l.i + 1)) (omega arith) _ c.in_ok-place_row.ensures.read;
  kept = keeps_on l.invariant.kept c.in_ok-place_row.ensures.kept;
}

pub returns-in_err-place_row-clause-kept : goal.returns-in_err-place_row-clause-kept
returns-in_err-place_row-clause-kept c = keeps_on c.loop-i.invariant.kept c.in_err-place_row.ensures.kept

pub returns-clause-read : goal.returns-clause-read
returns-clause-read c = let l = c.loop-i in places_end _ l.i (c.args.n - l.i) l.invariant.left _ (omega arith) (omega arith)
