-- `latest_arrivals` meets its contract: what the check does not find alone.
use native.Mathlib.Omega.{arith}
use Rattle.std.proofs.Common.{rules}
use Rattle.walked_times.proofs.LatestLaws.{backing_start, backing_there, backing_on}
use Rattle.walked_times.proofs.latest_arrivals.Goals as goal

pub loop-i-init : goal.loop-i-init
loop-i-init c = record { count = search rules; backing = backing_start _ _ _ _ _ _ _ c.requires.0 (search rules) c.infinity-by.ensures }

pub latest_arrival-by-requires : goal.latest_arrival-by-requires
latest_arrival-by-requires c = (backing_there _ _ _ _ _ _ _ _ _ c.loop-i.invariant.backing _ _ c.in-Some.ensures.steps.1.0 c.requires.1, c.loop-i.invariant.backing.there)

pub loop-i-preserved : goal.loop-i-preserved
loop-i-preserved c = record {
  count = search rules;
  backing = backing_on _ _ _ _ _ _ _ _ _ c.loop-i.invariant.backing _ _ c.in-Some.ensures.steps.1.0 _ _ c.requires.1 (omega (arith, c.requires.2, c.loop-i.auto.out)) (search rules) c.latest_arrival-by.ensures;
}
