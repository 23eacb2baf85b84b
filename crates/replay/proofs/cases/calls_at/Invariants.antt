-- What the loop of `cases::calls_at` keeps.
use Rattle.replayed_calls.specs.tally.Tally.{Counted}
use Rattle.replay.proofs.cases.calls_at.Given as goal

abbrev pub invariant-loop : goal.invariant-loop
invariant-loop l = Counted l.initial.tally l.tally
