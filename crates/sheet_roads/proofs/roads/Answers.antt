-- `roads` meets its contract: what the check does not find alone.
use Rattle.sheet_squares.specs.SheetTextReadLaws.{handed_as}
use Rattle.sheet_roads.proofs.RoadLaws.{no_distances, both_roads}
use Rattle.sheet_roads.proofs.roads.Goals as goal

pub returns-in_err-distances-clause-read : goal.returns-in_err-distances-clause-read
returns-in_err-distances-clause-read c = handed_as _ _ _ c.from_residual.ensures.1 (no_distances _ c.in_err-distances.ensures)

pub returns-clause-read : goal.returns-clause-read
returns-clause-read c = both_roads _ _ c.times.result c.in_ok-distances.ensures c.times.ensures.read
