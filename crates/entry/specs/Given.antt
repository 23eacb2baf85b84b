-- What each public call gives the table. Assumes nothing.
use Rattle.std.specs.Prelude.{ℕ, List, Option, None, Some, Result, Ok, Err}
use Rattle.refusal.specs.declared.Refusal.{Refusal}
use Rattle.refusal.specs.Number.{number}
use Rattle.local_search.specs.models.declared.vehicle.VehicleBreak.{VehicleBreak}
use Rattle.local_search.specs.models.Problem.{Problem}
use Rattle.local_search.specs.plan.Plan.{Slices}
use Rattle.entry.specs.declared.Work.{Work}
use Rattle.entry.specs.Table.{Inputs, refusal}

-- a call that is given the problem alone
abbrev pub problem_inputs : Problem → Inputs
problem_inputs p = record { problem = p; rest = None; plan = None; route = None; tape = None; limit = None; work = None }

-- a route beside it: "rows 1 to 4 over the whole problem, then 6 over the route"
abbrev pub route_inputs : Problem → List ℕ → Inputs
route_inputs p r = record { problem = p; rest = None; plan = None; route = Some r; tape = None; limit = None; work = None }

-- a route and a break beside it
abbrev pub schedule_inputs : Problem → VehicleBreak → List ℕ → Inputs
schedule_inputs p b r = record { problem = p; rest = Some b; plan = None; route = Some r; tape = None; limit = None; work = None }

-- a plan beside it
abbrev pub plan_inputs : Problem → Slices → Inputs
plan_inputs p s = record { problem = p; rest = None; plan = Some s; route = None; tape = None; limit = None; work = None }

-- eliminate: rows 1 to 6 and 9
abbrev pub eliminate_inputs : Problem → Slices → Work → Inputs
eliminate_inputs p s w = record { problem = p; rest = None; plan = Some s; route = None; tape = None; limit = None; work = Some w }

-- minimise, with its tape and its step limit: rows 1 to 9
abbrev pub minimise_inputs : Problem → Slices → List ℕ → ℕ → Work → Inputs
minimise_inputs p s tape limit w = record { problem = p; rest = None; plan = Some s; route = None; tape = Some tape; limit = Some limit; work = Some w }

-- "the entry checks": what the problem and a plan alone are refused with
abbrev pub entry : Problem → Slices → Option ℕ
entry p s = refusal (plan_inputs p s)

-- the row that a result of the code is refused with, by its number
abbrev pub row_of : {A : Type 0} → Result A Refusal → Option ℕ
row_of (Ok a) = None
row_of (Err e) = Some (number e)
