-- Two tails exchanged in a plan in two slices: laws from the facts that the code has where it needs them. Assumes nothing.
use Prim.Native.Nat.{ℕ, ◌≤◌}
use native.Mathlib.Omega.{arith}
use mathlib.Core.Path.{◌≡◌, refl, sym, ap, ◌∙◌}
use mathlib.Core.Bool.{Bool, true, false, cond, ◌&&◌}
use mathlib.Core.List.{List, ◌++◌}
use lib.ListN.{length, take, drop}
use Rattle.joined_tails.specs.models.Problem.{Problem, of_demand}
use Rattle.route_exchange.specs.plan.Plan.{Plan, HasPosition, lengths_of, route, total, non_empty, exchange_tails}
use Rattle.route_exchange.specs.plan.Given.{plan_of, routes_left, Becomes, becomes_same}
use Rattle.route_exchange.specs.plan.declared.each.EachRoute.{EachRoute}
use Rattle.route_exchange.specs.plan.declared.routes.Routes.{Routes}
use Rattle.route_exchange.specs.plan.Slices.{lengths_split}
use Rattle.route_exchange.specs.PlanExchanges.{first_exchange_tails, second_exchange_tails}
use Rattle.joined_tails.specs.route_load.Feasible.{load, fits, feasible}
use Rattle.joined_tails.specs.perturbation.Perturb.{try_tails}
use Rattle.joined_tails.specs.perturbation.Parts.{joined, joined_stands}

-- ---- both routes as they would be, and the move

heavy_first : (x y z t : Bool) → y ≡ false → ((x && (y && z)) && t) ≡ false
heavy_first true y z t e = rw e
heavy_first false y z t e = refl

and_false : (x : Bool) → (x && false) ≡ false
and_false true = refl
and_false false = refl

and_true : (x : Bool) → (x && true) ≡ x
and_true true = refl
and_true false = refl

-- the first is too heavy; the second does not stand; the first decides
module _ (p : Problem) (a i b j : ℕ) (plan : Plan)
    (v : Bool) (ev : v ≡ fits (of_demand p.demand p.vehicle) (load p.demand (joined a i b j plan))) where
  abbrev whole_problem : Problem
  whole_problem = p

  abbrev both_stand : Bool
  both_stand = joined_stands whole_problem a i b j plan && joined_stands whole_problem b j a i plan

  pub joined_heavy : v ≡ false → v ≡ both_stand
  unfolding joined_stands feasible
  joined_heavy f = f ∙ sym (heavy_first (non_empty (joined a i b j plan)) _ _ _ (sym ev ∙ f))

  module _ (w : Bool) (ew : w ≡ joined_stands whole_problem b j a i plan) where
    pub joined_falls : w ≡ false → w ≡ both_stand
    joined_falls f = f ∙ sym (ap (λ (t : Bool). joined_stands whole_problem a i b j plan && t) (sym ew ∙ f) ∙ and_false (joined_stands whole_problem a i b j plan))

    pub joined_decides : w ≡ true → (x : Bool) → x ≡ joined_stands whole_problem a i b j plan → x ≡ both_stand
    joined_decides f x ex = ex ∙ sym (ap (λ (t : Bool). joined_stands whole_problem a i b j plan && t) (sym ew ∙ f) ∙ and_true (joined_stands whole_problem a i b j plan))

pub ruleset both_laws = (joined_heavy, joined_falls, joined_decides)

-- the routes of r, lent to be read, are as many stops
pub left_fits : (w : EachRoute) (r : Routes) (work : List ℕ) → routes_left w ≡ plan_of r → length r.stops.now ≤ length work → total w.lengths.now ≤ length work
left_fits w r work e h =
    let same : total w.lengths.now ≡ total r.lengths.now =
    sym (ap total (lengths_split w.lengths.now w.stops.now w.lent.inside)) ∙ ap (λ (plan : Plan). total (lengths_of plan)) e
    ∙ ap total (lengths_split r.lengths.now r.stops.now r.lent.inside) in
    omega (arith, same, r.lent.inside, h)

same_tests : (a b c d : Bool) {A : Type 0} (x y : A) → cond (a && c) (cond (b && d) x y) y ≡ cond ((a && b) && (c && d)) x y
same_tests true true c d x y = go c
  where
    go : (c : Bool) → cond c (cond d x y) y ≡ cond (c && d) x y
    go true = refl
    go false = refl
same_tests true false true d x y = refl
same_tests true false false d x y = refl
same_tests false b c d x y = refl

module _ (p : Problem) (old : Routes) (a i b j : ℕ) (d : a ≡ b → ⊥) (f : HasPosition (plan_of old) a i) (g : HasPosition (plan_of old) b j)
    (v : Bool) (ev : v ≡ (joined_stands p a i b j (plan_of old) && joined_stands p b j a i (plan_of old))) where
  by_joined : try_tails p a i b j (plan_of old) ≡ cond v (exchange_tails a i b j (plan_of old)) (plan_of old)
  unfolding try_tails joined_stands joined
  by_joined =
      let plan = plan_of old in
      let ra = take i (route a plan) ++ drop j (route b plan) in
      let rb = take j (route b plan) ++ drop i (route a plan) in
      rw (ev, first_exchange_tails a i b j plan d f.there g.there, second_exchange_tails a i b j plan d f.there g.there)
      (same_tests (non_empty ra) (feasible p ra) (non_empty rb) (feasible p rb) (exchange_tails a i b j plan) plan)

  pub tails_made : (n : ℕ) (new : Routes) → v ≡ true → Becomes old (exchange_tails a i b j (plan_of old)) n new
      → Becomes old (try_tails p a i b j (plan_of old)) n new
  tails_made n new t h = rw (by_joined, t) h

  pub tails_left : v ≡ false → Becomes old (try_tails p a i b j (plan_of old)) (total old.lengths.now) old
  tails_left t =
      rw (by_joined, t) (becomes_same old)

pub ruleset tails_laws = (tails_made, tails_left)
