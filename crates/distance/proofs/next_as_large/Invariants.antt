-- What the loop of `next_as_large` keeps.
use Rattle.std.proofs.Common.{◌≤◌}
use Rattle.distance.specs.Seen.{Seen}
use Rattle.distance.proofs.next_as_large.Given as goal

abbrev pub invariant-loop-i : goal.invariant-loop-i
invariant-loop-i l = (l.start ≤ l.i) × Seen l.xs l.most l.i
