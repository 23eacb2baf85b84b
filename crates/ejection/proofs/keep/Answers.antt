-- `keep` meets its contract: what the check does not find alone.
use Rattle.ejection.proofs.EjectLaws.{kept_copied}
use Rattle.ejection.proofs.keep.Goals as goal

pub returns-clause-cells : goal.returns-clause-cells
returns-clause-cells c = kept_copied _ _ _ _ _ _ _ _ c.requires.places.0 c.requires.places.1 c.saturating_sub-between.ensures c.copy_part.ensures c.copy_part-2.ensures c.copy_part-3.ensures
