-- Two small plans that the pool reduces by ejections, with the answers of a run of the original: what the laws leave open (which stop leaves, who is
-- popped next, how many words a move takes) is pinned here by computation. Assumes nothing.
use Rattle.std.specs.Prelude.{ℕ, ◌≡◌, refl, List, [], ◌∷◌, map, length, replicate, ℤ, pos, Float, None}
use Rattle.std.specs.Float.{binary64}
use Rattle.std.specs.Float.Ieee.{of_int}
use Rattle.pool_cost.specs.models.declared.vehicle.Vehicle.{Vehicle}
use Rattle.pool_cost.specs.models.Problem.{Problem, problem}
use Rattle.pool_cost.specs.plan.Plan.{Plan}
use Rattle.pool_cost.specs.local_search.declared.rounds.Counts.{Counts}
use Rattle.pool_cost.specs.local_search.Rounds.{Result}
use Rattle.pool_cost.specs.ejection_pool.Pool.{Allowance}
use Rattle.minimization.specs.Minimize.{minimize_routes}
use Rattle.minimization.specs.Opened.{opened}

abbrev num : ℕ → Float
num n = of_int binary64 (pos n)

-- a vehicle of a capacity with no limits and no fixed cost, at depot 0
abbrev van : ℕ → Vehicle
van capacity =
    record { capacity = pos capacity; depot_id = 0; fixed_cost = num 0; cost_per_distance = num 1; max_distance = None; max_duration = None; rest = None }

-- n places with demands and distances, and nothing else
abbrev loads : ℕ → ℕ → List ℕ → List ℕ → Problem
loads capacity n demands distances =
    let none = replicate n (num 0) in
    problem n (map pos demands) none none none none (replicate n 0) (map num distances) [] (van capacity)

abbrev left : Plan → ℕ → ℕ → Result
left plan steps draws = record { plan = plan; counts = record { steps = steps; draws = draws } }

-- Single ejections over five attempts: each attempt begins with all failures at 1. Some tail swaps would empty a route.
pub single :
    minimize_routes (record { limit = 6; clock = 100; tape = 90 ∷ 520 ∷ 227 ∷ 717 ∷ 571 ∷ 15 ∷ 639 ∷ [] })
    (loads 7 7 (0 ∷ 2 ∷ 2 ∷ 4 ∷ 5 ∷ 5 ∷ 1 ∷ [])
    (0 ∷ 6 ∷ 5 ∷ 2 ∷ 3 ∷ 2 ∷ 5 ∷ 6 ∷ 0 ∷ 1 ∷ 8 ∷ 5 ∷ 4 ∷ 3 ∷ 5 ∷ 1 ∷ 0 ∷ 7 ∷ 4 ∷ 3 ∷ 2 ∷ 2 ∷ 8 ∷ 7 ∷ 0 ∷ 5 ∷ 4 ∷ 7 ∷ 3 ∷ 5 ∷ 4 ∷ 5 ∷ 0 ∷ 3 ∷ 6 ∷ 2 ∷ 4 ∷ 3 ∷ 4 ∷ 3 ∷ 0 ∷ 3 ∷ 5 ∷ 3 ∷ 2 ∷ 7 ∷ 6 ∷ 3 ∷ 0 ∷ []))
    ((6 ∷ 2 ∷ []) ∷ (4 ∷ []) ∷ (5 ∷ []) ∷ (3 ∷ []) ∷ (1 ∷ []) ∷ [])
    ≡ left ((6 ∷ 2 ∷ []) ∷ (5 ∷ []) ∷ (3 ∷ []) ∷ (4 ∷ 1 ∷ []) ∷ []) 9 1000
unfolding opened
single = refl

-- A double ejection: the later of the two ejected stops is popped first. Some tail swaps would empty a route.
pub double :
    minimize_routes (record { limit = 5; clock = 100; tape = 177 ∷ 803 ∷ 460 ∷ 570 ∷ 210 ∷ 196 ∷ 616 ∷ 104 ∷ 438 ∷ 155 ∷ 318 ∷ 285 ∷ 979 ∷ [] })
    (loads 6 6 (0 ∷ 2 ∷ 1 ∷ 2 ∷ 6 ∷ 1 ∷ [])
    (0 ∷ 3 ∷ 5 ∷ 3 ∷ 4 ∷ 2 ∷ 3 ∷ 0 ∷ 6 ∷ 0 ∷ 3 ∷ 3 ∷ 5 ∷ 6 ∷ 0 ∷ 6 ∷ 9 ∷ 3 ∷ 3 ∷ 0 ∷ 6 ∷ 0 ∷ 3 ∷ 3 ∷ 4 ∷ 3 ∷ 9 ∷ 3 ∷ 0 ∷ 6 ∷ 2 ∷ 3 ∷ 3 ∷ 3 ∷ 6 ∷ 0 ∷ []))
    ((2 ∷ []) ∷ (4 ∷ []) ∷ (5 ∷ []) ∷ (3 ∷ 1 ∷ []) ∷ [])
    ≡ left ((4 ∷ []) ∷ (2 ∷ 5 ∷ 3 ∷ 1 ∷ []) ∷ []) 10 500
unfolding opened
double = refl
