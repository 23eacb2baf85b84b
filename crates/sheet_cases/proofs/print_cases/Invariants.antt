-- What the loops of `print_cases` keep.
use Rattle.std.proofs.Common.{◌≡◌, length}
use Rattle.sheet_cases.proofs.print_cases.Given as goal

abbrev pub invariant-loop-numbers : goal.invariant-loop-numbers
invariant-loop-numbers l = length l.out ≡ 6000

abbrev pub decreases-loop-numbers : goal.decreases-loop-numbers
decreases-loop-numbers l = length l.numbers.rest.now
