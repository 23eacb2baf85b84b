-- The check of a route of a plan in two slices, and two stops exchanged in it: laws from the facts that the code has where it needs them.
-- Assumes nothing.
use Prim.Native.Nat.{ℕ, ◌<◌}
use native.Mathlib.Omega.{arith}
use mathlib.Core.Path.{◌≡◌, refl, sym, ap, ◌∙◌}
use mathlib.Core.Bool.{Bool, true, false, ◌&&◌}
use mathlib.Core.List.{List, []}
use lib.ListN.{length}
use Rattle.perturbation.specs.models.Problem.{Problem, of_demand, Stops, problem_of}
use Rattle.exchanged_stops.specs.laws.All.{all_get}
use Rattle.exchanged_stops.specs.plan.Plan.{Plan, HasStop, route, total, exchange_stops}
use Rattle.exchanged_stops.specs.plan.Slices.{length_split, stop_route}
use Rattle.exchanged_stops.specs.plan.Given.{plan_of, routes_left, Becomes, keeps_on}
use Rattle.exchanged_stops.specs.plan.declared.each.EachRoute.{EachRoute}
use Rattle.exchanged_stops.specs.PlanRoutes.{Routes}
use Rattle.exchanged_stops.specs.PlanExchanges.{occurs_exchange_stops, number_exchange_stops, first_stop_still, second_stop_still, exchange_stops_twice}
use Rattle.perturbation.specs.route_load.Feasible.{load, fits, checked, feasible}
use Rattle.perturbation.specs.local_search.Planned.{Planned, planned_stops, planned_as}
use Rattle.perturbation.specs.Perturb.{stands, try_exchange}

-- ---- route k, as it is lent

pub route_stops : (n : ℕ) (r : EachRoute) (k : ℕ) {t : List ℕ} → k < length r.lengths.now → Planned n (routes_left r) → t ≡ route k (routes_left r) → Stops n t
route_stops n r k h p e = rw e (all_get k [] (planned_stops n (routes_left r) p) (rw (length_split r.lengths.now r.stops.now) h))

-- the routes of r, lent to be read
pub left_there : (w : EachRoute) (r : Routes) (k : ℕ) → routes_left w ≡ plan_of r → k < length r.lengths.now → k < length w.lengths.now
left_there w r k e h = rw (← length_split w.lengths.now w.stops.now, e, length_split r.lengths.now r.stops.now) h

-- ---- two routes stand where both loads are within capacity and both pass the check

and_last : (x y z : Bool) → y ≡ false → (x && (y && z)) ≡ false
and_last true y z e = rw e
and_last false y z e = refl

module _ (p : Problem) (a b : ℕ) (plan : Plan) {one other : List ℕ} (ea : one ≡ route a plan) (eb : other ≡ route b plan)
    (v : Bool) (ev : v ≡ fits (of_demand p.demand p.vehicle) (load p.demand one)) where
  abbrev unladen : Problem
  unladen = problem_of [] p.places p.roads p.vehicle

  pub first_heavy : v ≡ false → v ≡ stands p a b plan
  unfolding feasible
  first_heavy f = f ∙ rw (← ea, ← ev, f)

  module _ (h : v ≡ true) (w : Bool) (ew : w ≡ fits (of_demand p.demand p.vehicle) (load p.demand other)) where
    pub second_heavy : w ≡ false → w ≡ stands p a b plan
    unfolding feasible
    second_heavy f = f ∙ rw (← eb) (sym (and_last (feasible p (route a plan)) (fits p (load p.demand other)) (checked p other) (sym ew ∙ f)))

    module _ (k : w ≡ true) (x : Bool) (ex : x ≡ checked unladen one) where
      pub first_fails : x ≡ false → x ≡ stands p a b plan
      unfolding feasible
      first_fails f = f ∙ rw (← ea, ← ev, h, ← ex, f)

      pub second_decides : x ≡ true → (y : Bool) → y ≡ checked unladen other → y ≡ stands p a b plan
      unfolding feasible
      second_decides f y ey = rw (← ea, ← eb, ← ev, h, ← ex, f, ← ew, k, ← ey)

pub ruleset stands_laws = (first_heavy, second_heavy, first_fails, second_decides)

-- ---- two stops exchanged, and then exchanged back or not

module _ (n : ℕ) (old mid : Routes) (a i b j : ℕ) (e : Becomes old (exchange_stops a i b j (plan_of old)) (total old.lengths.now) mid)
    (d : a ≡ b → ⊥) (f : HasStop (plan_of old) a i) (g : HasStop (plan_of old) b j) where
  pub exchanged_first_in : a < length mid.lengths.now
  exchanged_first_in = omega (arith, e.kept.count, stop_route old.lengths.now old.stops.now a i f)

  pub exchanged_second_in : b < length mid.lengths.now
  exchanged_second_in = omega (arith, e.kept.count, stop_route old.lengths.now old.stops.now b j g)

  pub exchanged_planned : Planned n (plan_of old) → Planned n (plan_of mid)
  exchanged_planned r =
      rw e.routes
      (planned_as n (plan_of old) (exchange_stops a i b j (plan_of old))
      (omega (arith, number_exchange_stops a i b j (plan_of old) d f.there g.there))
      (λ c. occurs_exchange_stops a i b j (plan_of old) d c f.there g.there f.within g.within) r)

  pub exchanged_first : HasStop (plan_of mid) a i
  exchanged_first = rw e.routes (first_stop_still a i b j (plan_of old) d f.there g.there f.within)

  pub exchanged_second : HasStop (plan_of mid) b j
  exchanged_second = rw e.routes (second_stop_still a i b j (plan_of old) d f.there g.there g.within)

  module _ (p : Problem) (v : Bool) (ev : v ≡ stands p a b (plan_of mid)) where
    pub exchange_stays : v ≡ true → Becomes old (try_exchange p a i b j (plan_of old)) (total old.lengths.now) mid
    unfolding try_exchange
    exchange_stays t = record { routes = e.routes ∙ rw (← e.routes, ← ev, t); sum = e.sum; kept = e.kept }

    pub exchange_undone : (new : Routes) → v ≡ false → Becomes mid (exchange_stops a i b j (plan_of mid)) (total mid.lengths.now) new
        → Becomes old (try_exchange p a i b j (plan_of old)) (total old.lengths.now) new
    unfolding try_exchange
    exchange_undone new t u =
        record {
          routes = u.routes ∙ ap (exchange_stops a i b j) e.routes ∙ exchange_stops_twice a i b j (plan_of old) d f.there g.there f.within g.within
              ∙ rw (← e.routes, ← ev, t);
          sum = u.sum ∙ e.sum;
          kept = keeps_on e.kept u.kept;
        }

pub ruleset exchanged_laws = (exchanged_first_in, exchanged_second_in, exchanged_planned, exchanged_first, exchanged_second, exchange_stays, exchange_undone)
