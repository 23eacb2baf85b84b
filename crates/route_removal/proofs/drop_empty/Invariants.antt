-- What the loop of `drop_empty` keeps.
use Rattle.route_removal.proofs.RemovalLaws.{Keeping}
use Rattle.route_removal.proofs.drop_empty.Given as goal

abbrev pub invariant-loop-k : goal.invariant-loop-k
invariant-loop-k l = Keeping l.initial.lengths l.lengths l.r l.k
