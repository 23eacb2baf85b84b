-- `calls_pass` meets its contract: what the check does not find alone.
use borrow.Author.Tests.{not-true, not-false}
use Rattle.planner.specs.laws.Picks.{via}
use Rattle.call_words.proofs.FormLaws.{judging_laws}
use Rattle.call_words.proofs.calls_pass.Goals as goal

pub returns-then-not-call_passes : goal.returns-then-not-call_passes
returns-then-not-call_passes c = search (judging_laws, via, not-true)

pub returns-then-left-w : goal.returns-then-left-w
returns-then-left-w c = search (judging_laws, via, not-false)

pub loop-call-preserved : goal.loop-call-preserved
loop-call-preserved c = search (judging_laws, via, not-false)

pub returns : goal.returns
returns c = search judging_laws
