-- What the loop of `TallyDisplay::fmt` has written.
use Rattle.std.proofs.Common.{take}
use Rattle.std.specs.Fmt.{HasWritten, IsPlainFormatter}
use Rattle.tally.specs.Printed.{kind_lines}
use Rattle.tally.proofs.TallyDisplay.fmt.Given as goal

abbrev pub invariant-loop-kind : goal.invariant-loop-kind
invariant-loop-kind g l =
    IsPlainFormatter l.initial.f → HasWritten g.W.Write.write_str_gives l.initial.f (kind_lines l.tally (take l.kind-index l.kind-items)) l.f
