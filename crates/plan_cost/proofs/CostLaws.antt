-- The cost of a plan: the sum so far, and the routes that are left. Assumes nothing.
use Rattle.std.proofs.Common.{◌≡◌, ℕ, ◌*◌, ◌≤◌, ◌<◌, List, [], ◌∷◌, length, refl, sym, ap, ◌∙◌, rules}
use lib.Ieee.{Float}
use Rattle.route_cost.specs.floats.Binary64.{◌⊕◌, 0f}
use Rattle.route_cost.specs.laws.All.{All, all_head, all_drop}
use Rattle.route_cost.specs.laws.Loops.{foldl}
use Rattle.route_cost.specs.models.declared.vehicle.Vehicle.{Vehicle}
use Rattle.route_cost.specs.models.Vehicle.{fixed_cost_in_distance}
use Rattle.route_cost.specs.models.Problem.{DistanceMatrix, of_roads, Stops}
use Rattle.route_cost.specs.plan.Plan.{Plan}
use Rattle.route_cost.specs.Route.{route_distance, cost}

abbrev pub adds : DistanceMatrix → ℕ → Float → Float → List ℕ → Float
adds m depot fixed sum r = sum ⊕ (route_distance m depot r ⊕ fixed)

-- `whole` is the cost of all routes, and those in `left` are left
pub record Costing (m : DistanceMatrix) (depot : ℕ) (fixed whole sum : Float) (left : Plan) : Type 0 where
  pub few : m.size ≤ 256
  pub cells : length m.distances ≡ m.size * m.size
  pub ends : depot < m.size
  pub stops : All (Stops m.size) left
  pub same : whole ≡ foldl (adds m depot fixed) sum left

module _ (m : DistanceMatrix) (depot : ℕ) (fixed : Float) where
  pub costing_start : (plan : Plan) → m.size ≤ 256 → length m.distances ≡ m.size * m.size → depot < m.size → All (Stops m.size) plan
      → Costing m depot fixed (foldl (adds m depot fixed) 0f plan) 0f plan
  costing_start plan f c d r = record { few = f; cells = c; ends = d; stops = r; same = refl }

  module _ (whole sum : Float) {left : Plan} (g : Costing m depot fixed whole sum left) where
    module _ (r : List ℕ) (more : Plan) (e : left ≡ r ∷ more) where
      pub costing_stops : Stops m.size r
      costing_stops = all_head (rw e at g.stops)

      pub costing_more : (x : Float) → x ≡ route_distance m depot r → Costing m depot fixed whole (sum ⊕ (x ⊕ fixed)) more
      unfolding foldl
      costing_more x f =
          record { few = g.few; cells = g.cells; ends = g.ends; stops = all_drop 1 (rw e at g.stops); same = rw f (rw e at g.same) }

    pub costing_end : left ≡ [] → sum ≡ whole
    unfolding foldl
    costing_end e = sym (rw e at g.same)

pub cost_is : (m : DistanceMatrix) (v : Vehicle) (fixed : Float) (plan : Plan) (sum : Float) {left : Plan}
    → Costing m v.depot_id fixed (foldl (adds m v.depot_id fixed) 0f plan) sum left → fixed ≡ fixed_cost_in_distance v → left ≡ []
    → sum ≡ cost (of_roads m v) plan
unfolding cost
cost_is m v fixed plan sum g e h =
    costing_end m v.depot_id fixed _ sum g h ∙ ap (λ (x : Float). foldl (adds m v.depot_id x) 0f plan) e

pub ruleset costing_laws = (rules, costing_start, costing_stops, costing_more, cost_is)
