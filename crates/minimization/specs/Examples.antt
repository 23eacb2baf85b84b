-- The definitions computed on small plans: what a slip in them would change. Assumes nothing.
use Rattle.std.specs.Prelude.{ℕ, ◌≡◌, refl, true, false, List, [], ◌∷◌, replicate, pos, Float, Option, Some, None}
use Rattle.std.specs.Prelude.{Some}
use Rattle.std.specs.Float.{binary64}
use Rattle.std.specs.Float.Ieee.{of_bits, of_int}
use Rattle.pool_cost.specs.floats.Binary64.{+∞, -∞}
use Rattle.pool_cost.specs.models.declared.vehicle.Vehicle.{Vehicle}
use Rattle.pool_cost.specs.models.Problem.{Problem, problem}
use Rattle.pool_cost.specs.plan.Plan.{Plan}
use Rattle.pool_cost.specs.route_load.Feasible.{feasible}
use Rattle.pool_cost.specs.local_search.declared.rounds.Counts.{Counts}
use Rattle.pool_cost.specs.quick_test.Quick.{departures, latest_arrivals, may_fit}
use Rattle.pool_cost.specs.ejection_pool.Pool.{Allowance}
use Rattle.minimization.specs.Minimize.{minimize_routes}
use Rattle.minimization.specs.Opened.{opened}

abbrev num : ℕ → Float
num n = of_int binary64 (pos n)

abbrev van : Option Float → Vehicle
van most =
    record {
      capacity = pos 10;
      depot_id = 0;
      fixed_cost = num 0;
      cost_per_distance = num 1;
      max_distance = most;
      max_duration = None;
      rest = None;
    }

-- M, K and a tape
abbrev with : ℕ → ℕ → List ℕ → Allowance
with m k tape = record { limit = m; clock = k; tape = tape }

abbrev counted : ℕ → ℕ → Counts
counted steps draws = record { steps = steps; draws = draws }

-- ---- the sheet's problem: two stops of demands 4 and 5

sheet : Option Float → Problem
sheet most =
    problem 3 (pos 0 ∷ pos 4 ∷ pos 5 ∷ []) (replicate 3 (num 0)) (replicate 3 (num 0)) (replicate 3 (num 0)) (replicate 3 (num 0)) (0 ∷ 0 ∷ 0 ∷ [])
    (num 0 ∷ num 10 ∷ num 10 ∷ num 10 ∷ num 0 ∷ num 5 ∷ num 10 ∷ num 5 ∷ num 0 ∷ []) [] (van most)

two_routes : Plan
two_routes = (1 ∷ []) ∷ (2 ∷ []) ∷ []

-- case 9: each stop of the shorter route is inserted, and the round after it tries the route that is left
emptied : minimize_routes (with 5 5 (7 ∷ [])) (sheet None) two_routes ≡ record { plan = (1 ∷ 2 ∷ []) ∷ []; counts = counted 2 0 }
unfolding opened sheet two_routes
emptied = refl

-- case 11: five steps an attempt, and the clock is not asked at the limit
stopped_early : minimize_routes (with 5 5 (7 ∷ [])) (sheet (Some (num 24))) two_routes ≡ record { plan = two_routes; counts = counted 5 0 }
unfolding opened sheet two_routes
stopped_early = refl

stopped_late : minimize_routes (with 5 10 (7 ∷ [])) (sheet (Some (num 24))) two_routes ≡ record { plan = two_routes; counts = counted 10 0 }
unfolding opened sheet two_routes
stopped_late = refl

-- ---- the quick test is no mere shortcut

-- 0.1, 0.7 and their sum
abbrev tenth : Float
tenth = of_bits binary64 0x3fb9_9999_9999_999a

abbrev seven_tenths : Float
seven_tenths = of_bits binary64 0x3fe6_6666_6666_6666

abbrev eight_tenths : Float
eight_tenths = of_bits binary64 0x3fe9_9999_9999_9999

-- stop 1 opens at 0.1, stop 2 is 0.7 further and closes at 0.1 + 0.7; stop 3 is where the depot and stop 1 are
windows : Problem
windows =
    problem 4 (replicate 4 (pos 0)) (replicate 4 (num 0)) (num 0 ∷ tenth ∷ num 0 ∷ num 0 ∷ []) (num 0 ∷ num 1 ∷ eight_tenths ∷ num 0 ∷ []) (replicate 4 (num 0))
    (0 ∷ 1 ∷ 1 ∷ 0 ∷ [])
    (num 0 ∷ num 0 ∷ num 1 ∷ num 0 ∷ num 0 ∷ num 0 ∷ seven_tenths ∷ num 0 ∷ num 1 ∷ num 1 ∷ num 0 ∷ num 1 ∷ num 0 ∷ num 0 ∷ num 1 ∷ num 0 ∷ [])
    [] (van None)

-- 0.1 + 0.7 − 0.7 is below 0.1, so no arrival at stop 1 is in time, by the bound
bounds : latest_arrivals windows.places windows.roads 0 (1 ∷ 2 ∷ []) ≡ -∞ ∷ eight_tenths ∷ []
unfolding opened windows
bounds = refl

left_at : departures windows.places windows.roads 0 (1 ∷ 2 ∷ []) ≡ Some (tenth ∷ eight_tenths ∷ [])
unfolding opened windows
left_at = refl

-- the route with stop 3 at its front passes, and the quick test says no
passes_check : feasible windows (3 ∷ 1 ∷ 2 ∷ []) ≡ true
unfolding opened windows
passes_check = refl

refused_quickly : may_fit windows.places windows.roads 0 (1 ∷ 2 ∷ []) (tenth ∷ eight_tenths ∷ []) (-∞ ∷ eight_tenths ∷ []) 0 3 ≡ false
unfolding opened windows
refused_quickly = refl
