-- `copy_part` meets its contract: what the check does not find alone.
use Rattle.cells.proofs.CellLaws.{copying_laws}
use Rattle.cells.proofs.copy_part.Goals as goal

pub loop-i-init : goal.loop-i-init
loop-i-init c = search copying_laws

pub loop-i-preserved : goal.loop-i-preserved
loop-i-preserved c = search copying_laws

pub returns : goal.returns
returns c = search copying_laws
