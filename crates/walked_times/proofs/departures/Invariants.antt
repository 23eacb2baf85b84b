-- What the loop of `departures` keeps.
use Rattle.walked_times.proofs.DepartureLaws.{Leaving}
use Rattle.walked_times.proofs.departures.Given as goal

abbrev pub invariant-loop-i : goal.invariant-loop-i
invariant-loop-i l = Leaving l.net.places l.net.roads l.depot l.route l.out l.time l.prev l.i
