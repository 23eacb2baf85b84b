-- `run_calls` meets its contract: what the check does not find alone.
use mathlib.Core.Path.{refl}
use Rattle.recorded_call.specs.laws.Picks.{via}
use Rattle.recorded_call.specs.call_words.Lent.{keeps_same}
use Rattle.call_lists.proofs.run_calls.Goals as goal

pub returns-then-not-fits : goal.returns-then-not-fits
returns-then-not-fits c = record {
  leaves = record { malformed = via _ _ _ c.fits.ensures c.if-not-fits.true; same = refl };
  kept = keeps_same _;
}

pub run_all-requires : goal.run_all-requires
run_all-requires c = via _ _ _ c.fits.ensures c.if-not-fits.false
