-- What the attempt at a route answers, as the code says it. Assumes nothing.
use Rattle.std.specs.Prelude.{None, Some, Result, Ok, Err, Float}
use Rattle.pool_cost.specs.models.Problem.{Problem}
use Rattle.pool_cost.specs.plan.Plan.{Plan}
use Rattle.pool_cost.specs.local_search.declared.rounds.Counts.{Counts}
use Rattle.pool_cost.specs.local_search.Options.{bind}
use Rattle.pool_cost.specs.local_search.Rounds.{Tried}
use Rattle.pool_cost.specs.Attempt.{if_cheaper}

-- the plan that is left where the attempt is accepted
abbrev pub tried : Result Counts Counts → Plan → Tried
tried (Err n) plan = record { plan = None; counts = n }
tried (Ok n) plan = record { plan = Some plan; counts = n }

-- the answer of an emptied pool, after the test of its cost
abbrev pub judged : Problem → Float → Tried → Tried
judged p before t = record { plan = bind t.plan (if_cheaper p before); counts = t.counts }
