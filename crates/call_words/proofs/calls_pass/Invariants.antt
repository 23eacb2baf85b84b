-- What the loop of `calls_pass` keeps.
use Rattle.call_words.proofs.FormLaws.{Judging}
use Rattle.call_words.proofs.calls_pass.Given as goal

abbrev pub invariant-loop-call : goal.invariant-loop-call
invariant-loop-call l = Judging l.there l.calls l.tapes l.left l.call-index
