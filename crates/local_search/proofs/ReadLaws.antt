-- What reads some parts of a problem only has one value for all problems that share them: from the contracts of the functions, over those parts
-- alone, to the definitions over a whole problem. Assumes nothing.
use Prim.Native.Nat.{ℕ}
use mathlib.Core.Path.{◌≡◌}
use mathlib.Core.Bool.{Bool}
use mathlib.Core.List.{List}
use lib.Ieee.{Float}
use Rattle.route_load.specs.models.Problem.{Problem, of_demand, of_roads}
use Rattle.route_order.specs.plan.Plan.{Plan}
use Rattle.route_load.specs.route_cost.Route.{cost}
use Rattle.route_load.specs.Feasible.{has_room}

module _ (p : Problem) where
  pub room_any : (r : List ℕ) (c : ℕ) (v : Bool) → v ≡ has_room (of_demand p.demand p.vehicle) r c → v ≡ has_room p r c
  unfolding has_room
  room_any r c v e = e

  pub cost_any : (plan : Plan) (x : Float) → x ≡ cost (of_roads p.roads p.vehicle) plan → x ≡ cost p plan
  unfolding cost
  cost_any plan x e = e

pub ruleset read_laws = (room_any, cost_any)
