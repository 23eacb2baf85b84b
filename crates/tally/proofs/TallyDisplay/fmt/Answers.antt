-- `TallyDisplay::fmt` meets its contract: what the check does not find alone.
use Rattle.std.proofs.Common.{rules, refl, arith}
use Rattle.std.proofs.Output.{has_written_append, has_written_of_eq}
use Rattle.tally.specs.Printed.{kind_lines}
use Rattle.tally.proofs.PrintedLaws.{lines_next, lines_all}
use Rattle.tally.proofs.TallyDisplay.fmt.Goals as goal

pub loop-kind-init : goal.loop-kind-init
unfolding kind_lines
loop-kind-init g c = search rules

pub loop-kind-preserved : goal.loop-kind-preserved
loop-kind-preserved g c = λ p.
    has_written_of_eq _ _ _ _ _ (lines_next _ _ _ _ _ refl (omega (arith, c.loop-kind-test.true)))
    (has_written_append _ _ _ _ _ _ (c.loop-kind.invariant p) (c.in_ok-write.ensures.writes (c.loop-kind.invariant p).plain refl))

pub returns-clause-writes : goal.returns-clause-writes
returns-clause-writes g c = λ p ok.
    has_written_of_eq _ _ _ _ _ (lines_all _ _ _ _ (omega (arith, c.loop-kind-test.false, c.loop-kind.auto)))
    (has_written_append _ _ _ _ _ _ (c.loop-kind.invariant p) (c.writeln.ensures.writes (c.loop-kind.invariant p).plain ok))
