-- What the loop of `largest` keeps, and what it counts down.
use Rattle.std.proofs.Common.{◌-◌, length}
use Rattle.distance.specs.Seen.{Seen}
use Rattle.distance.proofs.largest.Given as goal

abbrev pub invariant-loop-at : goal.invariant-loop-at
invariant-loop-at l = Seen l.xs l.most l.i

abbrev pub decreases-loop-at : goal.decreases-loop-at
decreases-loop-at l = length l.xs - l.i
