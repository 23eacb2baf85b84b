-- What the loop of `latest_arrivals` keeps.
use mathlib.Core.Path.{◌≡◌}
use Rattle.walked_times.proofs.LatestLaws.{Backing}
use Rattle.walked_times.proofs.latest_arrivals.Given as goal

abbrev pub invariant-loop-i : goal.invariant-loop-i
invariant-loop-i l = record {
  count : l.i-iterator.iter.count ≡ 0;
  backing : Backing l.net.places l.net.roads l.depot l.route l.initial.out l.out l.by l.next l.i-iterator.iter.iter.rest.now;
}
