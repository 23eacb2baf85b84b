-- How a turn of the pool ends, as the code says it. Assumes nothing.
use Rattle.std.specs.Prelude.{ℕ, List, Result, Ok, Err}
use Rattle.cheapest_insertion.specs.plan.Plan.{Plan}
use Rattle.cheapest_insertion.specs.local_search.declared.rounds.Counts.{Counts}
use Rattle.made_room.specs.ejection_made.Made.{Stack}
use Rattle.ejection_pool.specs.Pool.{Turn, stop, more, failed}
use Rattle.ejection_pool.specs.Running.{state}

-- how a turn ends, with the plan, the pool and the failures as they are then
abbrev pub as_turn : Result Counts Counts → Plan → Stack → List ℕ → Turn
as_turn (Err n) plan pool failures = stop (failed n)
as_turn (Ok n) plan pool failures = more (state plan pool failures n)
