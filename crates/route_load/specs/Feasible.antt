-- The load and the check of a route: whether it is feasible. Assumes nothing.
use Rattle.std.specs.Prelude.{ℕ, List, ◌≡◌, Bool, true, not, ◌&&◌, ◌||◌, get_or, ℤ, pos, ◌+ℤ◌}
use Rattle.std.specs.Int.Signed.{le_z}
use Rattle.route_cost.specs.laws.Loops.{foldl}
use Rattle.route_cost.specs.models.RouteLimits.{limits_of}
use Rattle.route_cost.specs.models.Problem.{Problem, depot}
use Rattle.route_cost.specs.evaluation.Check.{route_checks_needed, route_feasible}

-- ---- load

abbrev pub demand_at : List ℤ → ℕ → ℤ
demand_at demand c = get_or demand c (pos 0)

-- Pool::load: "Load is the sum of a route's demands"
unfoldable pub load : List ℤ → List ℕ → ℤ
load demand route = foldl (λ sum c. sum +ℤ demand_at demand c) (pos 0) route

-- "within capacity is load ≤ capacity"
abbrev pub fits : Problem → ℤ → Bool
fits p n = le_z n p.vehicle.capacity

-- the load test that comes before all others: the route's load and c's demand fit
unfoldable pub has_room : Problem → List ℕ → ℕ → Bool
has_room p route c = fits p (load p.demand route +ℤ demand_at p.demand c)

-- ---- the check

-- "The route check is needed if any place has a window or any limit or break is set."
abbrev pub constrained : Problem → Bool
constrained p = route_checks_needed p.places.flags (limits_of p.vehicle)

-- "A route passes the route check if it is feasible by the two sections before the pool."
abbrev pub passes : Problem → List ℕ → Bool
passes p route = route_feasible p.places p.roads (depot p) (limits_of p.vehicle) route

-- the check where it is needed: `!self.constrained || route_feasible(..)`
abbrev pub checked : Problem → List ℕ → Bool
checked p route = not (constrained p) || passes p route

-- Pool::feasible
unfoldable pub feasible : Problem → List ℕ → Bool
feasible p route = fits p (load p.demand route) && checked p route

-- a route "within capacity" that "passes the check"
pub record Sound (p : Problem) (route : List ℕ) : Type 0 where
  pub within_capacity : fits p (load p.demand route) ≡ true
  pub passes_check : passes p route ≡ true
