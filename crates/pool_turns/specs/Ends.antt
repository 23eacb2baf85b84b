-- How an attempt to empty the pool ends, as the code says it. Assumes nothing.
use Rattle.std.specs.Prelude.{None, Some, Result, Ok, Err}
use Rattle.pool_turn.specs.plan.Plan.{Plan}
use Rattle.pool_turn.specs.local_search.declared.rounds.Counts.{Counts}
use Rattle.pool_turn.specs.local_search.Rounds.{Tried}

-- what an attempt says: the plan that is left, where the pool is emptied
abbrev pub said : Result Counts Counts → Plan → Tried
said (Err n) plan = record { plan = None; counts = n }
said (Ok n) plan = record { plan = Some plan; counts = n }
