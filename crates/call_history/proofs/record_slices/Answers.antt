-- `record_slices` meets its contract: what the check does not find alone.
use mathlib.Core.Path.{refl}
use native.Mathlib.Omega.{arith}
use Rattle.std.proofs.lemmas.Slice.{put_mid-paste}
use Rattle.call_history.proofs.PutLaws.{put_both}
use Rattle.call_history.proofs.record_slices.Goals as goal

pub returns : goal.returns
returns c =
    put_both c.args.history.now c.args.lengths.now c.args.stops.now _ (omega (arith, c.requires))
    (put_mid-paste _ _ _ _ c.args.lengths.now _ c.copy_cells.ensures (omega arith) refl)
    (put_mid-paste _ _ _ _ c.args.stops.now _ c.copy_cells-2.ensures (omega arith) refl)
