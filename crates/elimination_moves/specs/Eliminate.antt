-- The attempt to move the stops of a route into the others one by one, and the search (route_elimination.rs, `eliminate_routes`).
-- Assumes nothing.
use Rattle.std.specs.Prelude.{ℕ, List, cond, not, Float}
use Rattle.std.specs.Prelude.{Option, None, Some}
use Rattle.std.specs.Int.Signed.{lt_z}
use Rattle.std.specs.Float.Ieee.{lt, le}
use Rattle.reinsertion_candidates.specs.floats.Binary64.{◌⊕◌, ◌⊖◌, 0f, is_finite}
use Rattle.reinsertion_candidates.specs.laws.Edits.{erase}
use Rattle.reinsertion_candidates.specs.laws.Loops.{foldl}
use Rattle.reinsertion_candidates.specs.laws.Sorts.{sort_by}
use Rattle.reinsertion_candidates.specs.models.Vehicle.{fixed_cost_in_distance}
use Rattle.reinsertion_candidates.specs.models.Problem.{Problem}
use Rattle.reinsertion_candidates.specs.plan.Plan.{Plan, route, put_in}
use Rattle.reinsertion_candidates.specs.local_search.Options.{bind, then_some}
use Rattle.reinsertion_candidates.specs.route_cost.declared.Insertion.{Insertion}
use Rattle.reinsertion_candidates.specs.route_cost.Route.{gain_floor}
use Rattle.reinsertion_candidates.specs.route_load.Feasible.{demand_at}
use Rattle.reinsertion_candidates.specs.local_search.declared.rounds.Counts.{Counts}
use Rattle.reinsertion_candidates.specs.local_search.Rounds.{Tried, reduce}
use Rattle.reinsertion_candidates.specs.reinsertion_worth.Worth.{worth}
use Rattle.reinsertion_candidates.specs.Candidates.{candidates, by_cost, first_passing}

-- the other routes so far, and what was added to their worth
pub record Moved : Type 0 where
  pub rest : Plan
  pub added : Float

-- c inserted; none once what was added is no less than what is saved
unfoldable pub move_to : Float → ℕ → Moved → Insertion → Option Moved
move_to saved c m x =
    let added = m.added ⊕ x.cost in
    then_some (not (le saved added)) (record { rest = put_in x.route x.pos c m.rest; added = added })

-- the body of `for c in moving`; none where c has no place
unfoldable pub move_stop : Problem → Float → Moved → ℕ → Option Moved
move_stop p saved m c = bind (first_passing p m.rest c m.added saved (by_cost (candidates p c m.rest))) (move_to saved c m)

-- `moving`: "stops by demand descending, stable"
unfoldable pub moving : Problem → List ℕ → List ℕ
moving p r = sort_by (λ c d. lt_z (demand_at p.demand d) (demand_at p.demand c)) 0 r

-- `for c in moving`, until one has no place
unfoldable pub move_all : Problem → Float → List ℕ → Plan → Option Moved
move_all p saved stops rest = foldl (λ m c. bind m (λ n. move_stop p saved n c)) (Some (record { rest = rest; added = 0f })) stops

-- "accept if added < saved − 1e-12 × the largest distance"
unfoldable pub if_gained : Problem → Float → Moved → Option Plan
if_gained p saved m = then_some (lt m.added (saved ⊖ gain_floor p.roads)) m.rest

-- the body of `for r in order`
unfoldable pub without_route : Problem → Plan → ℕ → Option Plan
without_route p routes r =
    let saved = worth p (route r routes) ⊕ fixed_cost_in_distance p.vehicle in
    cond (is_finite saved) (bind (move_all p saved (moving p (route r routes)) (erase r routes)) (if_gained p saved)) None

-- an attempt counts neither steps nor draws
unfoldable pub attempt : Problem → Plan → ℕ → Counts → Tried
attempt p routes r n = record { plan = without_route p routes r; counts = n }

-- `eliminate_routes`
unfoldable pub eliminate_routes : Problem → Plan → Plan
eliminate_routes p plan = (reduce (attempt p) plan).plan
