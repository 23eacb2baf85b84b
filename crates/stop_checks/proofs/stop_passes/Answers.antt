-- `stop_passes` meets its contract: what the check does not find alone.
use borrow.Author.Rules.{rules}
use Rattle.length_checks.specs.entry.Table.{stop_passes}
use Rattle.stop_checks.proofs.stop_passes.Goals as goal

pub returns-then-c-size-clause-value : goal.returns-then-c-size-clause-value
unfolding stop_passes
returns-then-c-size-clause-value c = search rules

pub returns-clause-value : goal.returns-clause-value
unfolding stop_passes
returns-clause-value c = search rules
