-- A front and a tail joined in the work cells: laws from the facts that the code has where it needs them. Assumes nothing.
use Prim.Native.Nat.{ℕ, ◌+◌, ◌-◌, ◌≤◌, ◌<◌}
use native.Mathlib.Omega.{arith}
use mathlib.Core.Path.{◌≡◌, refl, sym, ap, ◌∙◌}
use mathlib.Core.Bool.{Bool, true, false, not}
use lib.Dec.{eqb}
use borrow.Author.Tests.{ne_eqb}
use mathlib.Core.List.{List, [], ◌∷◌, ◌++◌}
use Rattle.std.proofs.Common.{append_assoc}
use lib.ListN.{length, get_or, take, drop, set, length-append, length-drop, length-set}
use lib.Seq.{take_all, take_at, length-take-le, get_or-set_other}
use Rattle.stop_exchange.specs.laws.All.{all_get}
use Rattle.stop_exchange.specs.models.Problem.{Problem, Stops}
use Rattle.stop_exchange.specs.plan.Plan.{Plan, HasPosition, route, total, non_empty, exchange_tails}
use Rattle.stop_exchange.specs.plan.Given.{routes_left}
use Rattle.stop_exchange.specs.plan.declared.each.EachRoute.{EachRoute}
use Rattle.stop_exchange.specs.plan.Slices.{length_route, route_within, total_set, position_route, position_within}
use Rattle.stop_exchange.specs.PlanExchanges.{length_exchange_tails, occurs_exchange_tails, number_exchange_tails, first_exchange_tails}
use Rattle.stop_exchange.specs.route_load.Feasible.{feasible}
use Rattle.stop_exchange.specs.local_search.Planned.{Planned, planned_stops, planned_as}
use Rattle.stop_exchange.specs.perturbation.Parts.{joined, joined_stands}

-- ---- a front and a tail, joined in the work cells

module _ (r : EachRoute) (a i b j : ℕ) (d : a ≡ b → ⊥) (f : HasPosition (routes_left r) a i) (g : HasPosition (routes_left r) b j) where
  abbrev ls : List ℕ
  ls = r.lengths.now

  abbrev s : List ℕ
  s = r.stops.now

  -- two routes are in use together
  both_in_use : get_or ls a 0 + get_or ls b 0 ≤ total ls
  both_in_use =
      let h : a < length ls = position_route ls s a i f in
      let k : b < length ls = position_route ls s b j g in
      let o : get_or (set ls a 0) b 0 ≡ get_or ls b 0 = get_or-set_other ls a b 0 0 (λ e. d (sym e)) in
      omega (arith, total_set ls a 0 h, route_within (set ls a 0) b (rw length-set k))

  in_use : i + (get_or ls b 0 - j) ≤ total ls
  in_use = omega (arith, both_in_use, position_within ls s r.lent a i f)

  -- t and u: the two routes as they are lent
  module _ {t u : List ℕ} (et : t ≡ route a (routes_left r)) (eu : u ≡ route b (routes_left r)) where
    front_there : i ≤ length t
    front_there = rw et f.within

    abbrev front : List ℕ
    front = take i t

    abbrev back : List ℕ
    back = take (length u - j) (drop j u)

    back_is : back ≡ drop j u
    back_is = take_all (length u - j) (drop j u) (simp length-drop (omega arith))

    both_there : (w : List ℕ) → total ls ≤ length w → length front + length back ≤ length w
    both_there w h =
        let n : length front ≡ i = length-take-le i t front_there in
        let m : length back ≡ get_or ls b 0 - j = rw (back_is, length-drop, eu, length_route ls s r.lent.inside b) in
        omega (arith, n, m, in_use)

    pub front_fits : (w : List ℕ) → total ls ≤ length w → length front ≤ length w
    front_fits w h = omega (arith, both_there w h)

    pub back_fits : (w rest : List ℕ) → total ls ≤ length w → length rest + length front ≡ length w → length back ≤ length rest
    back_fits w rest h e = omega (arith, both_there w h)

    -- what the first cells are then
    module _ (x y : List ℕ) (ex : x ≡ front) (ey : y ≡ back) (free : List ℕ) where
      both_stand : take (length front + length back) (x ++ (y ++ free)) ≡ front ++ back
      both_stand =
          ap (λ (l : List ℕ). take (length front + length back) l) (rw (ex, ey) (sym (append_assoc front back free)))
          ∙ take_at (front ++ back) free (length front + length back) (length-append front back)

      pub joined_long : length front + length back ≡ length (take (length front + length back) (x ++ (y ++ free)))
      joined_long = sym (ap length both_stand ∙ length-append front back)

      pub joined_stand : take (length front + length back) (x ++ (y ++ free)) ≡ joined a i b j (routes_left r)
      unfolding joined
      joined_stand = both_stand ∙ rw (back_is, et, eu) refl

-- ---- r is what they are joined to

module _ (plan : Plan) (a i b j : ℕ) {r : List ℕ} (e : r ≡ joined a i b j plan) where
  pub joined_stops : (n : ℕ) → Planned n plan → (a ≡ b → ⊥) → HasPosition plan a i → HasPosition plan b j → Stops n r
  unfolding joined
  joined_stops n h d f g =
      let x = exchange_tails a i b j plan in
      let y : Planned n x = planned_as n plan x (omega (arith, number_exchange_tails a i b j plan d f.there g.there f.within g.within))
      (λ k. occurs_exchange_tails a i b j plan d k f.there g.there) h in
      let z : Stops n (route a x) = all_get a [] (planned_stops n x y) (rw (length_exchange_tails a i b j plan) f.there) in
      rw (e, ← first_exchange_tails a i b j plan d f.there g.there) z

  has_stops : (xs : List ℕ) → non_empty xs ≡ not (eqb (length xs) 0)
  unfolding non_empty
  has_stops [] = refl
  has_stops (x ∷ xs) = sym (ap not (ne_eqb (length (x ∷ xs)) 0 some))
    where
      some : length (x ∷ xs) ≡ 0 → ⊥
      some e = omega arith

  -- v: whether r is empty
  module _ (p : Problem) (v : Bool) (ev : v ≡ eqb (length r) 0) where
    has : non_empty r ≡ not v
    has = has_stops r ∙ ap not (sym ev)

    pub joined_none : v ≡ true → not v ≡ joined_stands p a i b j plan
    unfolding joined_stands
    joined_none h = rw (← e, has, h)

    pub joined_some : (x : Bool) → v ≡ false → x ≡ feasible p r → x ≡ joined_stands p a i b j plan
    unfolding joined_stands
    joined_some x h f = rw (← e, has, h) f

pub ruleset joined_laws = (joined_none, joined_some)
