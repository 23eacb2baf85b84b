-- Moves computed on a small plan: what a slip in them would change. Assumes nothing.
use Rattle.std.specs.Prelude.{ℕ, ◌≡◌, refl, [], ◌∷◌, replicate, pos, Float, None}
use Rattle.std.specs.Float.{binary64}
use Rattle.std.specs.Float.Ieee.{of_int}
use Rattle.ejection_search.specs.models.declared.vehicle.Vehicle.{Vehicle}
use Rattle.ejection_search.specs.models.Problem.{Problem, problem}
use Rattle.ejection_search.specs.plan.Plan.{Plan}
use Rattle.perturbation.specs.Perturb.{move}
use Rattle.perturbation.specs.Opened.{opened}

abbrev num : ℕ → Float
num n = of_int binary64 (pos n)

abbrev van : Vehicle
van =
    record {
      capacity = pos 10;
      depot_id = 0;
      fixed_cost = num 0;
      cost_per_distance = num 1;
      max_distance = None;
      max_duration = None;
      rest = None;
    }

-- the sheet's problem: two stops of demands 4 and 5
sheet : Problem
sheet =
    problem 3 (pos 0 ∷ pos 4 ∷ pos 5 ∷ []) (replicate 3 (num 0)) (replicate 3 (num 0)) (replicate 3 (num 0)) (replicate 3 (num 0)) (0 ∷ 0 ∷ 0 ∷ [])
    (num 0 ∷ num 10 ∷ num 10 ∷ num 10 ∷ num 0 ∷ num 5 ∷ num 10 ∷ num 5 ∷ num 0 ∷ []) [] van

two_routes : Plan
two_routes = (1 ∷ []) ∷ (2 ∷ []) ∷ []

-- an even third word: the stops are exchanged
exchanged : move sheet (0 ∷ []) (record { routes = two_routes; draws = 0 }) ≡ record { routes = (2 ∷ []) ∷ (1 ∷ []) ∷ []; draws = 5 }
unfolding opened sheet two_routes
exchanged = refl

-- a tail swap that empties a route is dropped after its five draws
not_emptied : move sheet (0 ∷ 0 ∷ 1 ∷ 0 ∷ 1 ∷ []) (record { routes = two_routes; draws = 0 }) ≡ record { routes = two_routes; draws = 5 }
unfolding opened sheet two_routes
not_emptied = refl

-- a route that is empty: two draws
two_draws : move sheet (0 ∷ []) (record { routes = (1 ∷ 2 ∷ []) ∷ [] ∷ []; draws = 0 }) ≡ record { routes = (1 ∷ 2 ∷ []) ∷ [] ∷ []; draws = 2 }
unfolding opened sheet
two_draws = refl
