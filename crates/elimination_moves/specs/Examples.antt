-- The definitions computed on small plans: what a slip in them would change. Assumes nothing.
use Rattle.std.specs.Prelude.{ℕ, ◌≡◌, refl, [], ◌∷◌, replicate, pos, Float, Option, Some, None}
use Rattle.std.specs.Float.{binary64}
use Rattle.std.specs.Float.Ieee.{of_int}
use Rattle.reinsertion_candidates.specs.models.declared.vehicle.Vehicle.{Vehicle}
use Rattle.reinsertion_candidates.specs.models.Problem.{Problem, problem}
use Rattle.reinsertion_candidates.specs.plan.Plan.{Plan}
use Rattle.elimination_moves.specs.Eliminate.{moving, eliminate_routes}
use Rattle.elimination_moves.specs.Opened.{opened}

abbrev num : ℕ → Float
num n = of_int binary64 (pos n)

-- a fixed cost of f, and a distance limit
abbrev van : ℕ → Option Float → Vehicle
van f most =
    record {
      capacity = pos 10;
      depot_id = 0;
      fixed_cost = num f;
      cost_per_distance = num 1;
      max_distance = most;
      max_duration = None;
      rest = None;
    }

-- three stops of demands 4, 5 and 4, each 10 from the depot and d from one another; stop 2 closes at 10 by its flags, its penalty is 100
apart : ℕ → ℕ → Vehicle → Problem
apart d flags v =
    problem 4 (pos 0 ∷ pos 4 ∷ pos 5 ∷ pos 4 ∷ []) (replicate 4 (num 0)) (replicate 4 (num 0)) (replicate 4 (num 10)) (replicate 4 (num 100)) (0 ∷ 0 ∷ flags ∷ 0 ∷ [])
    (num 0 ∷ num 10 ∷ num 10 ∷ num 10 ∷ num 10 ∷ num 0 ∷ num d ∷ num d ∷ num 10 ∷ num d ∷ num 0 ∷ num d ∷ num 10 ∷ num d ∷ num d ∷ num 0 ∷ []) [] v

two_routes : Plan
two_routes = (1 ∷ []) ∷ (2 ∷ []) ∷ []

-- the first of two positions that cost the same; an empty route is dropped
first_of_equals : eliminate_routes (apart 5 0 (van 0 None)) ((1 ∷ []) ∷ [] ∷ (2 ∷ []) ∷ []) ≡ (1 ∷ 2 ∷ []) ∷ []
unfolding opened apart
first_of_equals = refl

-- 20 saved and 20 added: no gain; with a fixed cost there is one
no_gain : eliminate_routes (apart 20 0 (van 0 None)) two_routes ≡ two_routes
unfolding opened apart two_routes
no_gain = refl

fixed_gain : eliminate_routes (apart 20 0 (van 1 None)) two_routes ≡ (1 ∷ 2 ∷ []) ∷ []
unfolding opened apart two_routes
fixed_gain = refl

-- a distance limit that the longer route breaks
limit_kept : eliminate_routes (apart 5 0 (van 0 (Some (num 24)))) two_routes ≡ two_routes
unfolding opened apart two_routes
limit_kept = refl

-- with a soft window the lateness counts: stop 2 stays first
soft_worth : eliminate_routes (apart 10 3 (van 0 None)) two_routes ≡ (2 ∷ 1 ∷ []) ∷ []
unfolding opened apart two_routes
soft_worth = refl

-- the largest demand first, the earlier of equals first
by_demand : moving (apart 5 0 (van 0 None)) (1 ∷ 3 ∷ 2 ∷ []) ≡ 2 ∷ 1 ∷ 3 ∷ []
unfolding opened apart
by_demand = refl

-- stops 1 and 3 fit together, and stop 2 with neither pair
capacity_kept : eliminate_routes (apart 5 0 (van 0 None)) ((1 ∷ 3 ∷ []) ∷ (2 ∷ []) ∷ []) ≡ (1 ∷ 3 ∷ []) ∷ (2 ∷ []) ∷ []
unfolding opened apart
capacity_kept = refl
