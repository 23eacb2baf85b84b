-- `changed` meets its contract: what the check does not find alone.
use borrow.Author.Rules.{rules}
use Rattle.minimise_call.specs.planner.Run.{call}
use Rattle.called.proofs.changed.Goals as goal

pub returns-in-Minimise : goal.returns-in-Minimise
unfolding call
returns-in-Minimise c = search rules

pub returns-in-Eliminate : goal.returns-in-Eliminate
unfolding call
returns-in-Eliminate c = search rules
