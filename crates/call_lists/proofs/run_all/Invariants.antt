-- What the loop of `run_all` keeps.
use Rattle.recorded_call.specs.models.Lent.{of_problem}
use Rattle.recorded_call.specs.call_words.Lent.{of_buffers, Keeps}
use Rattle.call_lists.proofs.RunLaws.{Running}
use Rattle.call_lists.proofs.run_all.Given as goal

abbrev pub invariant-loop-i : goal.invariant-loop-i
invariant-loop-i l = record {
  kept : Keeps l.initial.b l.b;
  running : Running (of_problem l.problem) l.words l.tapes (of_buffers l.initial.b) (of_buffers l.b) l.left l.i;
}
