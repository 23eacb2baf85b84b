-- `bound::latest_window` meets its contract: what the check does not find alone.
use Rattle.std.proofs.Common.{rules}
use Rattle.lateness_bound.specs.Bound.{latest_window, later_window}
use Rattle.lateness_bound.proofs.BoundLaws.{walked}
use Rattle.lateness_bound.proofs.bound.latest_window.Goals as goal

pub returns : goal.returns
unfolding latest_window later_window
returns c = walked _ c.len.ensures (λ most at next call k. search rules) c.fold.ensures.ran
