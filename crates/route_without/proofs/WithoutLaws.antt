-- The plan without route r: the pool runs on it, and what is left of both slices. Assumes nothing.
use Prim.Native.Nat.{ℕ, zero, suc, ◌-◌, ◌≤◌, ◌<◌}
use mathlib.Core.Path.{◌≡◌, sym, ap, ◌∙◌}
use mathlib.Core.List.{List, [], ◌∷◌, ◌++◌, reverse}
use Rattle.std.proofs.Common.{Result}
use native.Mathlib.Omega.{arith}
use lib.ListN.{length, take, drop, get_or, replicate, length-append, length-reverse, length-replicate}
use lib.Seq.{take_at, drop_at}
use lib.Ieee.{Float}
use Rattle.route_removal.specs.laws.Counts.{count_reverse}
use Rattle.route_removal.specs.laws.Edits.{erase}
use Rattle.pool_attempt.specs.models.Problem.{Problem}
use Rattle.route_removal.specs.plan.Plan.{Holds, Lent, split, flat, lengths_of, route, total}
use Rattle.route_removal.specs.plan.Given.{plan_of, routes_left, Keeps}
use Rattle.route_removal.specs.plan.declared.each.EachRoute.{EachRoute}
use Rattle.route_removal.specs.plan.declared.routes.Routes.{Routes}
use Rattle.route_removal.specs.plan.Routes.{number_erase, occurs_erase}
use Rattle.route_removal.specs.plan.Slices.{length_split, lengths_split, flat_split_all, total_append}
use Rattle.pool_attempt.specs.local_search.declared.rounds.Counts.{Counts}
use Rattle.pool_attempt.specs.route_cost.Route.{cost}
use Rattle.pool_attempt.specs.local_search.Search.{EndsWith0, but_last}
use Rattle.pool_attempt.specs.ejection_made.Made.{Stack, pooled}
use Rattle.pool_attempt.specs.ejection_pool.Pool.{Allowance, run_pool, empty_into}
use Rattle.pool_attempt.specs.pool_cost.Attempt.{attempt}
use Rattle.pool_attempt.specs.ejection_pool.Running.{Running, state}
use Rattle.pool_attempt.specs.Judged.{tried, judged}
use Rattle.route_without.specs.Attempting.{Attempting}

-- the routes of a plan, lent to be read
module _ (w : EachRoute) (r : Routes) (e : routes_left w ≡ plan_of r) where
  pub left_there : (k : ℕ) → k < length r.lengths.now → k < length w.lengths.now
  left_there k h = rw (← length_split w.lengths.now w.stops.now, e, length_split r.lengths.now r.stops.now) h

  left_same : total w.lengths.now ≡ total r.lengths.now
  left_same =
      sym (ap total (lengths_split w.lengths.now w.stops.now w.lent.inside)) ∙ ap (λ (plan : List (List ℕ)). total (lengths_of plan)) e
      ∙ ap total (lengths_split r.lengths.now r.stops.now r.lent.inside)

  pub left_few : {p : Problem} {limit : ℕ} {counted : Counts} → Attempting p limit r counted → total w.lengths.now ≤ 256
  left_few g = omega (arith, left_same, g.whole, g.few)

-- `new` is what `erase_route` leaves of `old`, of whose lengths the first m are lent; the pool has the route's stops
module _ {p : Problem} {limit : ℕ} {old : Routes} {counted : Counts} (r : ℕ)
    (g : Attempting p limit old counted) (there : r < length old.lengths.now) (new : Routes) (pool : Stack) (m : ℕ)
    (e : new.lengths.now ≡ erase r old.lengths.now ++ 0 ∷ [])
    (h : Holds (erase r (plan_of old)) (total old.lengths.now - get_or old.lengths.now r 0) (erase r old.lengths.now) new.stops.now)
    (kept : Keeps old new) (top : pooled pool ≡ reverse (route r (plan_of old))) (last : m ≡ length new.lengths.now - 1) where
  one_fewer : length (erase r old.lengths.now) ≡ m
  one_fewer = omega (arith, last, ap length e, length-append (erase r old.lengths.now) (0 ∷ []))

  front : take m new.lengths.now ≡ erase r old.lengths.now
  front = ap (take m) e ∙ take_at (erase r old.lengths.now) (0 ∷ []) m one_fewer

  behind : drop m new.lengths.now ≡ 0 ∷ []
  behind = ap (drop m) e ∙ drop_at (erase r old.lengths.now) (0 ∷ []) m one_fewer

  rest : split (take m new.lengths.now) new.stops.now ≡ erase r (plan_of old)
  rest = ap (λ (l : List ℕ). split l new.stops.now) front ∙ h.routes

  in_plan : r < length (plan_of old)
  in_plan = rw length_split there

  pub starts_lent : Lent (take m new.lengths.now) new.stops.now
  starts_lent = rw front (record { inside = omega (arith, h.sum, g.whole, kept.room); few = omega (arith, kept.room, g.few) })

  pub starts_running : {work : List ℕ} → length old.stops.now ≤ length work
      → Running p limit (split (take m new.lengths.now) new.stops.now) (length new.stops.now) pool work (replicate p.roads.size 1) counted
  starts_running free =
      let plan = plan_of old in
      let own : length (flat plan) ≡ length old.stops.now = ap length (flat_split_all old.lengths.now old.stops.now g.whole) in
      record {
        few = omega (arith, kept.room, g.few);
        pooled = record {
          places = λ c i. rw (rest, top) (omega (arith, count_reverse c (route r plan), occurs_erase c r plan in_plan, g.planned.places c i));
          all = rw (rest, top) (omega (arith, length-reverse (route r plan), number_erase r plan in_plan, own, kept.room));
          sized = length-replicate p.roads.size 1;
          counted = λ k. omega (arith, most_one p.roads.size k, g.limited);
          drawn = g.drawn;
        };
        work_room = omega (arith, kept.room, free);
      }
    where
      most_one : (n k : ℕ) → get_or {A = ℕ} (replicate n 1) k 0 ≤ 1
      most_one zero k = omega arith
      most_one (suc n) zero = omega arith
      most_one (suc n) (suc k) = most_one n k

  -- what `try_rest` answers and leaves
  module _ (X Y : List ℕ) (size : length X ≡ length (take m new.lengths.now)) where
    but_0 : but_last (X ++ drop m new.lengths.now) ≡ X
    but_0 =
        let n : length X ≡ length (X ++ (0 ∷ [])) - 1 = omega (arith, length-append X (0 ∷ [])) in
        rw behind (take_at X (0 ∷ []) (length (X ++ (0 ∷ [])) - 1) n)

    pub ends_with_0 : Lent X Y → EndsWith0 (X ++ drop m new.lengths.now) Y
    ends_with_0 l = record { zero_last = rw but_0 (ap (λ (z : List ℕ). X ++ z) behind); lent = rw but_0 l }

    -- the length that is 0 adds nothing
    pub still_lent : Lent X Y → Lent (X ++ drop m new.lengths.now) Y
    unfolding total
    still_lent l = rw behind (record { inside = omega (arith, total_append X (0 ∷ []), l.inside); few = l.few })

    pub without_tried : (given : Allowance) (before : Float) (a : Result Counts Counts) → before ≡ cost p (plan_of old) → given.limit ≡ limit
        → tried a (split X Y) ≡ judged p before (run_pool given p limit (state (split (take m new.lengths.now) new.stops.now) pool (replicate p.roads.size 1) counted))
        → tried a (split (but_last (X ++ drop m new.lengths.now)) Y) ≡ attempt given p (plan_of old) r counted
    unfolding attempt empty_into
    without_tried given before a b same t = rw but_0 (t ∙ rw (rest, top, b, same))
