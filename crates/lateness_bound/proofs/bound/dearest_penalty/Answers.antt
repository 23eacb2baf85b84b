-- `bound::dearest_penalty` meets its contract: what the check does not find alone.
use Rattle.std.proofs.Common.{rules}
use Rattle.lateness_bound.specs.Bound.{dearest_penalty, dearer_penalty}
use Rattle.lateness_bound.proofs.BoundLaws.{walked}
use Rattle.lateness_bound.proofs.bound.dearest_penalty.Goals as goal

pub returns : goal.returns
unfolding dearest_penalty dearer_penalty
returns c = walked _ c.len.ensures (λ most at next call k. search rules) c.fold.ensures.ran
