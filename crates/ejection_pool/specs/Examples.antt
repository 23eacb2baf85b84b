-- The pool computed on small plans: what a slip in it would change. Assumes nothing.
use Rattle.std.specs.Prelude.{ℕ, ◌≡◌, refl, List, [], ◌∷◌, replicate, pos, Float, None}
use Rattle.std.specs.Prelude.{Some}
use Rattle.std.specs.Float.{binary64}
use Rattle.std.specs.Float.Ieee.{of_int}
use Rattle.ejection_made.specs.models.declared.vehicle.Vehicle.{Vehicle}
use Rattle.ejection_made.specs.models.Problem.{Problem, problem}
use Rattle.ejection_made.specs.plan.Plan.{Plan}
use Rattle.ejection_made.specs.local_search.declared.rounds.Counts.{Counts}
use Rattle.ejection_pool.specs.Pool.{Allowance, more, turn, empty_into}
use Rattle.ejection_pool.specs.Opened.{opened}

abbrev num : ℕ → Float
num n = of_int binary64 (pos n)

abbrev van : Vehicle
van =
    record {
      capacity = pos 10;
      depot_id = 0;
      fixed_cost = num 0;
      cost_per_distance = num 1;
      max_distance = None;
      max_duration = None;
      rest = None;
    }

-- M, K and a tape
abbrev with : ℕ → ℕ → List ℕ → Allowance
with m k tape = record { limit = m; clock = k; tape = tape }

abbrev counted : ℕ → ℕ → Counts
counted steps draws = record { steps = steps; draws = draws }

two_routes : Plan
two_routes = (1 ∷ []) ∷ (2 ∷ []) ∷ []

-- three stops of demands a, b and c, 10 apart, with no windows
loads : ℕ → ℕ → ℕ → Problem
loads a b c =
    problem 4 (pos 0 ∷ pos a ∷ pos b ∷ pos c ∷ []) (replicate 4 (num 0)) (replicate 4 (num 0)) (replicate 4 (num 0)) (replicate 4 (num 0)) (replicate 4 0)
    (replicate 16 (num 10)) [] van

-- two stops leave for the popped one; the later of them is on top of the pool
later_on_top : turn (with 5 5 (7 ∷ [])) (loads 5 5 6) (record { routes = (1 ∷ 2 ∷ []) ∷ []; pool = 3 ∷ []; failures = replicate 4 1; counts = counted 0 0 }) (3 ∷ [])
    ≡ more (record { routes = (3 ∷ []) ∷ []; pool = 2 ∷ 1 ∷ []; failures = 1 ∷ 1 ∷ 1 ∷ 2 ∷ []; counts = counted 1 0 })
unfolding opened loads
later_on_top = refl

-- An attempt after others: failures are 1 for every place again, so the stops of both routes fail alike and the first route's leaves. 500 words.
fresh_failures : empty_into (with 5 50 (1 ∷ [])) (loads 4 6 9) two_routes (3 ∷ []) (counted 3 0)
    ≡ record { plan = Some ((3 ∷ []) ∷ (1 ∷ 2 ∷ []) ∷ []); counts = counted 5 500 }
unfolding opened loads two_routes
fresh_failures = refl
