-- The distance of a route, what an insertion adds to it, and the cost of a plan. Assumes nothing.
use Rattle.std.specs.Prelude.{ℕ, ◌-◌, List, [], ◌∷◌, cond, length, get_or, eqb, ltb, Float}
use Rattle.evaluation_laws.specs.floats.Binary64.{◌⊕◌, ◌⊖◌, ◌⊗◌, 0f, 1e-12}
use Rattle.plan.specs.laws.Loops.{foldl}
use Rattle.evaluation_laws.specs.models.Vehicle.{fixed_cost_in_distance}
use Rattle.evaluation_laws.specs.models.Problem.{DistanceMatrix, Problem}
use Rattle.evaluation_laws.specs.distance.Matrix.{get, scale}
use Rattle.plan.specs.Plan.{Plan}

-- the way that has come `dist` to prev and goes on over the stops to the depot
unfoldable pub legs : DistanceMatrix → ℕ → Float → ℕ → List ℕ → Float
legs m depot dist prev [] = dist ⊕ get m prev depot
legs m depot dist prev (c ∷ cs) = legs m depot (dist ⊕ get m prev c) c cs

-- `route_distance`; an empty route's is 0
unfoldable pub route_distance : DistanceMatrix → ℕ → List ℕ → Float
route_distance m depot [] = 0f
route_distance m depot (c ∷ cs) = legs m depot (get m depot c) c cs

-- `gain_floor`: "1e-12 × the largest distance"
abbrev pub gain_floor : DistanceMatrix → Float
gain_floor m = 1e-12 ⊗ scale m

-- the stop before position pos of a route, and the one at it, the depot at either end
abbrev pub prev_stop : ℕ → List ℕ → ℕ → ℕ
prev_stop depot route pos = cond (eqb pos 0) depot (get_or route (pos - 1) 0)

abbrev pub next_stop : ℕ → List ℕ → ℕ → ℕ
next_stop depot route pos = cond (ltb pos (length route)) (get_or route pos 0) depot

-- Pool::insertion_cost: what c at pos of the route adds to its distance
unfoldable pub insertion_cost : DistanceMatrix → ℕ → List ℕ → ℕ → ℕ → Float
insertion_cost m depot route pos c =
    let prev = prev_stop depot route pos in
    let next = next_stop depot route pos in
    get m prev c ⊕ get m c next ⊖ get m prev next

-- the closure `cost` of `minimize_routes`: "cost sums route distance + fixed in route order". The sum starts at 0.0; Rust's starts at −0.0,
-- which no sum of a route or more shows (`cost_start`).
unfoldable pub cost : Problem → Plan → Float
cost p routes = foldl (λ sum r. sum ⊕ (route_distance p.roads p.vehicle.depot_id r ⊕ fixed_cost_in_distance p.vehicle)) 0f routes
