-- `run_all` meets its contract: what the check does not find alone.
use native.Mathlib.Omega.{arith}
use Rattle.recorded_call.specs.call_words.Lent.{keeps_same, keeps_on}
use Rattle.call_lists.proofs.RunLaws.{running_start, running_next, running_more, running_end}
use Rattle.call_lists.proofs.run_all.Goals as goal

pub loop-i-init : goal.loop-i-init
loop-i-init c = record {
  kept = keeps_same _;
  running = running_start _ _ _ _ _ c.as_chunks.ensures.front c.as_chunks.ensures.front_len c.requires;
}

pub run_next-left-requires : goal.run_next-left-requires
run_next-left-requires c = running_next _ _ _ _ _ c.loop-i.invariant.kept.as_long _ _ c.loop-i.invariant.running c.loop-i-test.true _ c.of.ensures

pub loop-i-preserved : goal.loop-i-preserved
loop-i-preserved c = record {
  kept = keeps_on c.loop-i.invariant.kept c.run_next-left.ensures.kept;
  running = running_more _ _ _ _ _ c.loop-i.invariant.kept.as_long _ _ c.loop-i.invariant.running c.loop-i-test.true _ c.of.ensures _ _ c.run_next-left.ensures.recorded c.run_next-left.ensures.kept.as_long;
}

pub returns-clause-ran : goal.returns-clause-ran
returns-clause-ran c = running_end _ _ _ _ _ c.loop-i.invariant.kept.as_long _ _ c.loop-i.invariant.running (omega (arith, c.loop-i-test.false)) _ c.as_chunks.ensures.front c.as_chunks.ensures.front_len c.requires
