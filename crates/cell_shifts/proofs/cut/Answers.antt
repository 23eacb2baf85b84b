-- `cut` meets its contract: what the check does not find alone.
use Rattle.cell_shifts.proofs.ShiftLaws.{cut_out}
use Rattle.cell_shifts.proofs.cut.Goals as goal

pub returns : goal.returns
returns c = search cut_out
