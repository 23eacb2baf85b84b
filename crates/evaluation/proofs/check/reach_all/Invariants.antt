-- What the loop of `check::reach_all` keeps.
use Rattle.evaluation.proofs.CheckLaws.{Reaching}
use Rattle.evaluation.proofs.check.reach_all.Given as goal

abbrev pub invariant-loop-c : goal.invariant-loop-c
invariant-loop-c l = Reaching l.net.places l.net.roads l.stops l.initial.at l.at l.c-index
