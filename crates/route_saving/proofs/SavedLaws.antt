-- What is saved, from the facts that the code has where it needs it. Assumes nothing.
use Prim.Native.Nat.{ℕ, ◌<◌}
use native.Mathlib.Omega.{arith}
use mathlib.Core.Path.{◌≡◌, ap}
use mathlib.Core.List.{List, []}
use lib.ListN.{length}
use lib.Ieee.{Float}
use Rattle.emptied_route.specs.floats.Binary64.{◌⊕◌}
use Rattle.emptied_route.specs.models.Vehicle.{fixed_cost_in_distance}
use Rattle.emptied_route.specs.models.Problem.{Problem, Stops, problem_of}
use Rattle.emptied_route.specs.plan.Plan.{route}
use Rattle.emptied_route.specs.plan.Given.{plan_of, routes_left}
use Rattle.emptied_route.specs.plan.Slices.{length_split}
use Rattle.emptied_route.specs.plan.declared.each.EachRoute.{EachRoute}
use Rattle.emptied_route.specs.plan.declared.routes.Routes.{Routes}
use Rattle.emptied_route.specs.reinsertion_worth.Worth.{worth}
use Rattle.emptied_route.specs.Attempts.{Attempted}
use Rattle.emptied_route.proofs.EmptiedLaws.{attempt_stops}

-- ---- the routes of a plan that an attempt is made on, one after the other

module _ (p : Problem) (lent : Routes) (r : ℕ) (g : Attempted p lent r) (each : EachRoute) (e : routes_left each ≡ plan_of lent) where
  pub route_there : r < length each.lengths.now
  route_there =
      omega (arith, g.there, ap length e, length_split lent.lengths.now lent.stops.now, length_split each.lengths.now each.stops.now)

  pub route_stops : Stops p.roads.size (route r (routes_left each))
  route_stops = rw e (attempt_stops p lent r g)

-- ---- route r goes

module _ (each : EachRoute) (r : ℕ) {part : List ℕ} (e : part ≡ route r (routes_left each)) where
  pub part_stops : {n : ℕ} → Stops n (route r (routes_left each)) → Stops n part
  part_stops g = rw e g

  pub saved_is : (p : Problem) (own fixed : Float) → own ≡ worth (problem_of [] p.places p.roads p.vehicle) part → fixed ≡ fixed_cost_in_distance p.vehicle
      → own ⊕ fixed ≡ worth p (route r (routes_left each)) ⊕ fixed_cost_in_distance p.vehicle
  unfolding worth
  saved_is p own fixed ew ef = rw (ew, ef, e)
