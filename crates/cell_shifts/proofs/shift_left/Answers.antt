-- `shift_left` meets its contract: what the check does not find alone.
use Rattle.std.proofs.Common.{zero-add}
use Rattle.cells.specs.laws.Edits.{cut}
use Rattle.cell_shifts.proofs.shift_left.Goals as goal

pub returns : goal.returns
unfolding cut
returns c = rw zero-add at c.cut.ensures
