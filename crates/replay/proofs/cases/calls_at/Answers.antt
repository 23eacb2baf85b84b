-- `cases::calls_at` meets its contract: what the check does not find alone.
use Rattle.replayed_calls.specs.TallyCountedLaws.{counted_more}
use Rattle.replay.proofs.cases.calls_at.Goals as goal

pub loop-preserved : goal.loop-preserved
loop-preserved c = counted_more _ _ _ c.loop.invariant c.in_ok-call_at.ensures
