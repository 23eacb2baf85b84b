-- What the search for the cheapest place finds lies in the plan, and the route that it makes is feasible. Assumes nothing.
use Rattle.std.specs.Prelude.{ℕ, zero, suc, ◌≤◌, ◌<◌, ◌≡◌, refl, true, not, ◌||◌, List, [], ◌∷◌, length}
use Rattle.std.specs.Prelude.{Option, None, Some}
use Rattle.std.proofs.Common.{arith}
use Rattle.route_times.specs.laws.Edits.{insert_at}
use Rattle.route_times.specs.laws.Loops.{cond_rule, loop_rule}
use Rattle.route_times.specs.laws.Searches.{and_second}
use Rattle.route_times.specs.models.Problem.{Problem, depot}
use Rattle.route_times.specs.plan.Plan.{Plan, route, non_empty}
use Rattle.route_times.specs.local_search.Options.{Each}
use Rattle.route_times.specs.route_cost.declared.Insertion.{Insertion}
use Rattle.route_times.specs.route_cost.Route.{insertion_cost}
use Rattle.route_times.specs.route_load.Feasible.{constrained, has_room, feasible}
use Rattle.route_times.specs.quick_test.Quick.{may_fit, Times, times}
use Rattle.insertion.specs.Cheapest.{may_go_in, cheaper, try_position, try_positions, try_route, cheapest}

-- the full check is a part of it
pub may_go_in_feasible : (p : Problem) (r : List ℕ) (t : Times) (pos c : ℕ) → may_go_in p r t pos c ≡ true → feasible p (insert_at pos c r) ≡ true
unfolding may_go_in
may_go_in_feasible p r t pos c h = and_second (not (constrained p) || may_fit p.places p.roads (depot p) r t.departures t.latest pos c) (feasible p (insert_at pos c r)) h

-- a route with a stop put in is not empty
pub insert_non_empty : (pos c : ℕ) (r : List ℕ) → non_empty (insert_at pos c r) ≡ true
unfolding insert_at non_empty
insert_non_empty zero c r = refl
insert_non_empty (suc pos) c [] = refl
insert_non_empty (suc pos) c (x ∷ r) = refl

-- ---- the cheapest insertion

pub record Inserts (p : Problem) (routes : Plan) (c : ℕ) (x : Insertion) : Type 0 where
  pub there : x.route < length routes
  pub within : x.pos ≤ length (route x.route routes)
  pub feasible_with : feasible p (insert_at x.pos c (route x.route routes)) ≡ true

module _ (p : Problem) (routes : Plan) (c : ℕ) where
  abbrev Best : Option Insertion → Type 0
  Best = Each (Inserts p routes c)

  positions_found : (k : ℕ) → k < length routes → (o : Option Times) (best : Option Insertion) → Best best → Best (try_positions p c k (route k routes) o best)
  unfolding try_positions try_position
  positions_found k k-in None best h = h
  positions_found k k-in (Some t) best h =
      let r = route k routes in
      loop_rule (λ _. Best) (suc (length r)) (try_position p c k r t) (λ pos best pos-in h.
      cond_rule Best (cheaper (insertion_cost p.roads (depot p) r pos c) best)
      (λ _. cond_rule Best (may_go_in p r t pos c)
      (λ e. record { there = k-in; within = omega arith; feasible_with = may_go_in_feasible p r t pos c e })
      (λ _. h))
      (λ _. h)) h

  pub cheapest_found : Each (Inserts p routes c) (cheapest p routes c)
  unfolding cheapest try_route
  cheapest_found =
      loop_rule (λ _. Best) (length routes) (λ k. try_route p c k (route k routes)) (λ k best k-in h.
      cond_rule Best (has_room p (route k routes) c) (λ _. positions_found k k-in (times p (route k routes)) best h) (λ _. h)) tt
