-- `copy_cells` meets its contract: what the check does not find alone.
use Rattle.cells.proofs.CellLaws.{copied_whole}
use Rattle.cells.proofs.copy_cells.Goals as goal

pub returns : goal.returns
returns c = copied_whole _ _ c.requires c.copy_part.ensures
