-- `insert_at` meets its contract: what the check does not find alone.
use Rattle.cell_shifts.proofs.ShiftLaws.{inserted}
use Rattle.cell_shifts.proofs.insert_at.Goals as goal

pub returns : goal.returns
returns c = search inserted
