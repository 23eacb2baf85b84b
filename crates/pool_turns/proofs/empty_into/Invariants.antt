-- What the loop of `empty_into` keeps.
use Rattle.pool_turn.specs.plan.Given.{plan_of}
use Rattle.pool_turn.specs.ejection_pool.Running.{allowed, state, of_minimisation}
use Rattle.pool_turns.proofs.LoopLaws.{Looping}
use Rattle.pool_turns.proofs.empty_into.Given as goal

abbrev pub invariant-loop-counts : goal.invariant-loop-counts
invariant-loop-counts l =
    Looping (allowed l.given.allowance) (of_minimisation l.given) (state (plan_of l.initial.routes) l.initial.pool l.initial.failures l.initial.counts)
    l.initial.routes l.left l.routes l.pool l.work l.failures l.counts

abbrev pub decreases-loop-counts : goal.decreases-loop-counts
decreases-loop-counts l = l.left
