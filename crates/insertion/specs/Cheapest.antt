-- The cheapest place for a stop (route_minimization.rs, `Pool::cheapest`). Assumes nothing.
use Rattle.std.specs.Prelude.{ℕ, suc, List, Bool, true, cond, not, ◌&&◌, ◌||◌, length, Float}
use Rattle.std.specs.Prelude.{Option, None, Some}
use Rattle.std.specs.Float.Ieee.{le}
use Rattle.route_times.specs.laws.Edits.{insert_at}
use Rattle.route_times.specs.laws.Loops.{loop}
use Rattle.route_times.specs.models.Problem.{Problem, depot}
use Rattle.route_times.specs.plan.Plan.{Plan, route}
use Rattle.route_times.specs.route_cost.declared.Insertion.{Insertion}
use Rattle.route_times.specs.route_cost.Route.{insertion_cost}
use Rattle.route_times.specs.route_load.Feasible.{constrained, has_room, feasible}
use Rattle.route_times.specs.quick_test.Quick.{may_fit, Times, times}

-- c may go into the route at pos: "the quick test and the full check"
unfoldable pub may_go_in : Problem → List ℕ → Times → ℕ → ℕ → Bool
may_go_in p r t pos c =
    (not (constrained p) || may_fit p.places p.roads (depot p) r t.departures t.latest pos c) && feasible p (insert_at pos c r)

-- "strict improvement only": not `cost >= b`
abbrev pub cheaper : Float → Option Insertion → Bool
cheaper x None = true
cheaper x (Some best) = not (le best.cost x)

-- a turn of the loop over positions
unfoldable pub try_position : Problem → ℕ → ℕ → List ℕ → Times → ℕ → Option Insertion → Option Insertion
try_position p c k r t pos best =
    let x = insertion_cost p.roads (depot p) r pos c in
    cond (cheaper x best) (cond (may_go_in p r t pos c) (Some (record { cost = x; route = k; pos = pos })) best) best

-- the loop over positions, where the route is not passed over
unfoldable pub try_positions : Problem → ℕ → ℕ → List ℕ → Option Times → Option Insertion → Option Insertion
try_positions p c k r None best = best
try_positions p c k r (Some t) best = loop (suc (length r)) (try_position p c k r t) best

-- a turn of the loop over routes: "after the load test"
unfoldable pub try_route : Problem → ℕ → ℕ → List ℕ → Option Insertion → Option Insertion
try_route p c k r best = cond (has_room p r c) (try_positions p c k r (times p r) best) best

-- Pool::cheapest: "over routes, then positions"
unfoldable pub cheapest : Problem → Plan → ℕ → Option Insertion
cheapest p routes c = loop (length routes) (λ k. try_route p c k (route k routes)) None
