-- Laws of a route that goes and of its stops that are moved, each from the facts that the code has where it needs it. Assumes nothing.
use Prim.Native.Nat.{ℕ, ◌+◌, ◌-◌, ◌≤◌}
use native.Mathlib.Omega.{arith}
use mathlib.Core.Path.{◌≡◌, sym, ap, ap₂, subst, ◌∙◌}
use mathlib.Core.Bool.{false}
use mathlib.Core.List.{List, [], ◌∷◌, ◌++◌}
use Rattle.std.proofs.Common.{Option, None, Some}
use lib.ListN.{length, get_or, take, drop}
use lib.Seq.{take_at, drop_at, length-take-le}
use lib.Ieee.{Float, lt}
use Rattle.moved_stops.specs.floats.Binary64.{◌⊖◌}
use Rattle.route_removal.specs.laws.All.{All, all_get}
use Rattle.route_removal.specs.laws.Edits.{erase, length_erase, all_erase}
use Rattle.moved_stops.specs.models.Problem.{Problem, Stops}
use Rattle.route_removal.specs.plan.Plan.{Plan, Holds, Lent, split, route, total}
use Rattle.route_removal.specs.plan.Given.{plan_of, Keeps}
use Rattle.route_removal.specs.plan.declared.routes.Routes.{Routes}
use Rattle.route_removal.specs.plan.Slices.{flat_split, route_within, length_split, length_route, total_erase, total_append}
use Rattle.moved_stops.specs.local_search.Options.{bind, then_some}
use Rattle.moved_stops.specs.route_cost.Route.{gain_floor}
use Rattle.moved_stops.specs.local_search.Planned.{planned_stops}
use Rattle.moved_stops.specs.elimination_moves.Eliminate.{Moved, moving, move_all, if_gained}
use Rattle.moved_stops.specs.elimination_moves.Largest.{in_order, moving_is}
use Rattle.moved_stops.specs.stop_moves.Moves.{held_by}
use Rattle.emptied_route.specs.Attempts.{Attempted, emptied, fewer, Accepted}

-- ---- what is asked of an attempt

module _ (p : Problem) (lent : Routes) (r : ℕ) (g : Attempted p lent r) where
  attempt_routes : All (Stops p.roads.size) (plan_of lent)
  attempt_routes = planned_stops p.roads.size (plan_of lent) g.planned

  pub attempt_stops : Stops p.roads.size (route r (plan_of lent))
  attempt_stops = all_get r [] attempt_routes (omega (arith, length_split lent.lengths.now lent.stops.now, g.there))

  attempt_sum : total lent.lengths.now ≤ 256
  attempt_sum = omega (arith, g.planned.few, ap length (flat_split lent.lengths.now lent.stops.now), length-take-le (total lent.lengths.now) lent.stops.now lent.lent.inside)

  pub attempt_count : get_or lent.lengths.now r 0 ≤ 256
  attempt_count = omega (arith, attempt_sum, route_within lent.lengths.now r g.there)

-- ---- the stops of route r

module _ (lent : Routes) (r : ℕ) {t : List ℕ} (e : t ≡ route r (plan_of lent)) where
  keep_count : length t ≡ get_or lent.lengths.now r 0
  keep_count = ap length e ∙ length_route lent.lengths.now lent.stops.now lent.lent.inside r

  pub keep_end : (cells : List ℕ) → get_or lent.lengths.now r 0 ≤ length cells → length t ≤ length cells
  keep_end cells k = omega (arith, keep_count)

-- ---- route r goes

abbrev Found : Option Float → Type 0
Found None = ⊥
Found (Some added) = Unit

module _ (p : Problem) (lent : Routes) (r : ℕ) (g : Attempted p lent r)
    (part : List ℕ) (c : part ≡ route r (plan_of lent))
    (lent₁ : Routes) (e : lent₁.lengths.now ≡ erase r lent.lengths.now ++ 0 ∷ [])
    (h : Holds (erase r (plan_of lent)) (total lent.lengths.now - get_or lent.lengths.now r 0) (erase r lent.lengths.now) lent₁.stops.now) (k : Keeps lent lent₁) where
  -- all lengths but the last
  abbrev pub front : List ℕ
  front = take (length lent₁.lengths.now - 1) lent₁.lengths.now

  long : length (erase r lent.lengths.now) ≡ length lent.lengths.now - 1
  long = omega (arith, length_erase r lent.lengths.now g.there)

  others : front ≡ erase r lent.lengths.now
  others =
      ap (λ (k : ℕ). take (k - 1) lent₁.lengths.now) k.count ∙ ap (λ (l : List ℕ). take (length lent.lengths.now - 1) l) e
      ∙ take_at (erase r lent.lengths.now) (0 ∷ []) (length lent.lengths.now - 1) long

  rest_routes : split front lent₁.stops.now ≡ erase r (plan_of lent)
  rest_routes = rw others h.routes

  number : length part ≡ get_or lent.lengths.now r 0
  number = ap length c ∙ length_route lent.lengths.now lent.stops.now lent.lent.inside r

  sum_all : total front + length part ≡ total lent.lengths.now
  sum_all = omega (arith, ap total others, number, total_erase lent.lengths.now r g.there)

  pub front_routes : All (Stops p.roads.size) (split front lent₁.stops.now)
  front_routes = rw rest_routes (all_erase r (attempt_routes p lent r g))

  pub front_few : total front + length part ≤ 256
  front_few = omega (arith, sum_all, attempt_sum p lent r g)

  pub front_free : total front + length part ≤ length lent₁.stops.now
  front_free = omega (arith, sum_all, lent.lent.inside, k.room)

  pub front_places : Stops p.roads.size part
  front_places = rw c (attempt_stops p lent r g)

  -- the lengths that come back
  module _ (out : List ℕ) (z : length out ≡ length front) where
    abbrev pub whole : List ℕ
    whole = out ++ drop (length lent₁.lengths.now - 1) lent₁.lengths.now

    out_long : length out ≡ length lent.lengths.now - 1
    out_long = z ∙ ap length others ∙ long

    fewer_is : fewer lent.lengths.now whole ≡ out
    fewer_is = take_at out (drop (length lent₁.lengths.now - 1) lent₁.lengths.now) (length lent.lengths.now - 1) out_long

    last_is : drop (length lent₁.lengths.now - 1) lent₁.lengths.now ≡ 0 ∷ []
    last_is =
        ap (λ (k : ℕ). drop (k - 1) lent₁.lengths.now) k.count ∙ ap (λ (l : List ℕ). drop (length lent.lengths.now - 1) l) e
        ∙ drop_at (erase r lent.lengths.now) (0 ∷ []) (length lent.lengths.now - 1) long

    pub whole_lent : (st : List ℕ) → Lent out st → Lent whole st
    unfolding total
    whole_lent st l =
        record { inside = omega (arith, total_append out (drop (length lent₁.lengths.now - 1) lent₁.lengths.now), ap total last_is, l.inside); few = l.few }

    -- the stops are moved in the order of the definition
    module _ (saved : Float) (sum : Option Float) (st : List ℕ)
        (m : held_by sum (split out st) ≡ move_all p saved (in_order p.demand (length part) part) (split front lent₁.stops.now)) where
      whole_move : held_by sum (split (fewer lent.lengths.now whole) st) ≡ move_all p saved (moving p (route r (plan_of lent))) (erase r (plan_of lent))
      whole_move =
          ap (λ (l : List ℕ). held_by sum (split l st)) fewer_is ∙ m
          ∙ ap₂ (λ (xs : List ℕ) (x : Plan). move_all p saved xs x) (ap (λ (xs : List ℕ). in_order p.demand (length xs) xs) c ∙ sym (moving_is p (route r (plan_of lent)))) rest_routes

      pub empty_stuck : sum ≡ None → then_some false (split (fewer lent.lengths.now whole) st) ≡ emptied p saved (plan_of lent) r
      unfolding bind then_some
      empty_stuck q = ap (λ (o : Option Moved). bind o (if_gained p saved)) (ap (λ (x : Option Float). held_by x (split (fewer lent.lengths.now whole) st)) (sym q) ∙ whole_move)

      module _ (added : Float) (q : sum ≡ Some added) where
        pub empty_gained : (x : Float) → x ≡ gain_floor p.roads
            → then_some (lt added (saved ⊖ x)) (split (fewer lent.lengths.now whole) st) ≡ emptied p saved (plan_of lent) r
        unfolding bind if_gained
        empty_gained x ex =
            ap (λ (y : Float). then_some (lt added (saved ⊖ y)) (split (fewer lent.lengths.now whole) st)) ex
            ∙ ap (λ (o : Option Moved). bind o (if_gained p saved)) (ap (λ (x : Option Float). held_by x (split (fewer lent.lengths.now whole) st)) (sym q) ∙ whole_move)

        pub empty_accepted : ((sum ≡ None → ⊥) → total out ≡ total front + length part) → Accepted lent.lengths.now whole
        empty_accepted f =
            record {
              sum = ap total fewer_is ∙ f (λ n. subst Found (sym q ∙ n) tt) ∙ sum_all;
              last = ap₂ (λ (a b : List ℕ). a ++ b) (sym fewer_is) last_is;
            }
