-- The pool's state as the code holds it, what the loop asks for, and what a place for a stop changes. Assumes nothing.
use Rattle.std.specs.Prelude.{ℕ, ◌+◌, ◌≤◌, ◌<◌, ◌^◌, Bool, true, false, List, length}
use Rattle.std.specs.Prelude.{Option, None, Some}
use Rattle.ejection_made.specs.models.Problem.{Problem}
use Rattle.ejection_made.specs.plan.Plan.{Plan, put_in}
use Rattle.ejection_made.specs.plan.Given.{plan_of}
use Rattle.ejection_made.specs.plan.declared.routes.Routes.{Routes}
use Rattle.ejection_made.specs.local_search.declared.rounds.Counts.{Counts}
use Rattle.ejection_made.specs.route_cost.declared.Insertion.{Insertion}
use Rattle.ejection_made.specs.local_search.Planned.{Planned}
use Rattle.ejection_made.specs.ejection.Asked.{Counted}
use Rattle.ejection_made.specs.evaluation.Given.{of_instance}
use Rattle.ejection_made.specs.Made.{Stack, pooled}
use Rattle.ejection_pool.specs.declared.Allowance.{Allowance as Lent}
use Rattle.ejection_pool.specs.declared.Minimisation.{Minimisation}
use Rattle.ejection_pool.specs.Pool.{Allowance, State}
use Rattle.ejection_pool.specs.Pooled.{Pooled}

-- with the pool as the code holds it
abbrev pub state : Plan → Stack → List ℕ → Counts → State
state plan pool failures counts = record { routes = plan; pool = pooled pool; failures = failures; counts = counts }

abbrev pub allowance : ℕ → ℕ → List ℕ → Allowance
allowance limit clock tape = record { limit = limit; clock = clock; tape = tape }

-- as a call is lent it
abbrev pub allowed : Lent → Allowance
allowed a = allowance a.limit a.clock a.tape.now

-- the problem that a minimisation is over
abbrev pub of_minimisation : Minimisation → Problem
of_minimisation m = of_instance m.instance.now

-- a plan in a slice of `room` stops, with `left` steps to the limit
pub record Running (p : Problem) (left : ℕ) (plan : Plan) (room : ℕ) (pool : Stack) (work failures : List ℕ) (counts : Counts) : Type 0 where
  pub few : room ≤ 255
  pub pooled : Pooled p room left (state plan pool failures counts)
  pub work_room : room ≤ length work

-- what is asked for where c is off the pool and has no place
pub record Forcing (p : Problem) (routes : Routes) (pool : Stack) (work failures : List ℕ) (c : ℕ) (counts : Counts) : Type 0 where
  pub planned : Planned p.roads.size (plan_of routes)
  pub failing : Counted p.roads.size failures
  pub place : c < p.roads.size
  pub pool_room : length pool.items + 1 < 256
  pub work_room : length routes.stops.now ≤ length work
  pub step : counts.steps + 1 < 2 ^ 64
  pub draws : counts.draws + 500 < 2 ^ 64

-- ---- a stop placed

-- the cheapest place, where there is one
abbrev pub is_there : Option Insertion → Bool
is_there None = false
is_there (Some x) = true

abbrev pub put_best : ℕ → Option Insertion → Plan → Plan
put_best c None routes = routes
put_best c (Some x) routes = put_in x.route x.pos c routes

abbrev pub one_more : Bool → ℕ
one_more true = 1
one_more false = 0
