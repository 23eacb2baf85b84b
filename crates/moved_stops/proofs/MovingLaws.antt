-- The stops moved one after the other: the next one, and the loop, each law from the facts that the code has where it needs it. Assumes nothing.
use Prim.Native.Nat.{ℕ, suc, ◌+◌, ◌-◌, ◌≤◌, ◌<◌}
use native.Mathlib.Omega.{arith}
use mathlib.Core.Path.{◌≡◌, refl, sym, ap, subst, ◌∙◌}
use mathlib.Core.List.{List, ◌++◌}
use Rattle.std.proofs.Common.{Option, None, Some, le_refl}
use lib.ListN.{length, get_or, take, drop, length-append}
use lib.Seq.{length-take-le, take-length, take-append-le}
use lib.Ieee.{Float}
use Rattle.stop_moves.specs.floats.Binary64.{0f}
use Rattle.stop_moves.specs.laws.All.{all_get, all_of}
use Rattle.stop_moves.specs.laws.Edits.{erase, all_erase, length_erase}
use Rattle.stop_moves.specs.laws.Sorts.{smallest, least_inside}
use Rattle.stop_moves.specs.models.Problem.{Problem}
use Rattle.stop_moves.specs.plan.Plan.{total}
use Rattle.stop_moves.specs.plan.Given.{plan_of, Keeps, keeps_same, keeps_on}
use Rattle.stop_moves.specs.plan.declared.routes.Routes.{Routes}
use Rattle.stop_moves.specs.elimination_moves.Eliminate.{Moved, move_stop, move_all}
use Rattle.stop_moves.specs.elimination_moves.Largest.{larger, first_largest, in_order, in_order_more}
use Rattle.stop_moves.specs.Moves.{so_far, held_by, move_on, move_on_more, move_on_none, move_on_end, Waiting, Grown, Kept}

-- ---- the next stop

module _ (p : Problem) (lent : Routes) (left : List ℕ) (g : Waiting p lent left) (h : 0 < length left) where
  largest_inside : first_largest p.demand left < length left
  largest_inside = least_inside (larger p.demand) 0 left h

  fewer : (left₁ : List ℕ) → left₁ ≡ erase (first_largest p.demand left) left → length left₁ + 1 ≡ length left
  fewer left₁ e = omega (arith, ap length e, length_erase (first_largest p.demand left) left largest_inside)

  waiting_more : (lent₁ : Routes) (left₁ : List ℕ) → Grown p.roads.size (total lent.lengths.now + 1) lent₁ → Keeps lent lent₁
      → left₁ ≡ erase (first_largest p.demand left) left → Waiting p lent₁ left₁
  waiting_more lent₁ left₁ w k e =
      let n = fewer left₁ e in
      record {
        routes = w.routes;
        few = omega (arith, w.sum, g.few, n);
        free = omega (arith, w.sum, g.free, n, k.room);
        places = record {
          few = omega (arith, n, g.places.few);
          each = λ i q. all_get {P = λ x. x < p.roads.size} i 0 (rw e (all_erase (first_largest p.demand left) (all_of left 0 g.places.each))) q;
        };
      }

-- of those that are left the first is moved
order_more : (p : Problem) (m : ℕ) → 0 < m → (left left₁ : List ℕ) → left₁ ≡ erase (first_largest p.demand left) left → (saved : Float) (q : Moved)
    → move_on p saved (Some q) (in_order p.demand m left)
    ≡ move_on p saved (move_stop p saved q (get_or left (first_largest p.demand left) 0)) (in_order p.demand (m - 1) left₁)
order_more p m h left left₁ e saved q =
    let z : m ≡ suc (m - 1) = omega arith in
    ap (λ (k : ℕ). move_on p saved (Some q) (in_order p.demand k left)) z
    ∙ ap (move_on p saved (Some q)) (in_order_more p.demand (m - 1) left)
    ∙ move_on_more p saved q (get_or left (first_largest p.demand left) 0) (in_order p.demand (m - 1) (erase (first_largest p.demand left) left))
    ∙ ap (λ (l : List ℕ). move_on p saved (move_stop p saved q (get_or left (first_largest p.demand left) 0)) (in_order p.demand (m - 1) l)) (sym e)

-- ---- the loop: what is moved from the start is what is moved from here

pub record Moving (p : Problem) (saved : Float) (lent₀ : Routes) (left₀ : List ℕ) (lent : Routes) (left : List ℕ) (added : Float) (m : ℕ) : Type 0 where
  pub waiting : Waiting p lent (take m left)
  pub there : m ≤ length left
  pub sum : total lent.lengths.now + m ≡ total lent₀.lengths.now + length left₀
  pub kept : Keeps lent₀ lent
  pub same : move_all p saved (in_order p.demand (length left₀) left₀) (plan_of lent₀) ≡ move_on p saved (Some (so_far (plan_of lent) added)) (in_order p.demand m (take m left))

module _ (p : Problem) (saved : Float) (lent₀ : Routes) (left₀ : List ℕ) where
  pub moving_start : Waiting p lent₀ left₀ → Moving p saved lent₀ left₀ lent₀ left₀ 0f (length left₀)
  unfolding move_all move_on
  moving_start w = record {
    waiting = rw (take-length left₀) w;
    there = le_refl (length left₀);
    sum = refl;
    kept = keeps_same _;
    same = rw (take-length left₀) refl;
  }

  module _ (lent : Routes) (left : List ℕ) (added : Float) (m : ℕ) (g : Moving p saved lent₀ left₀ lent left added m) where
    module _ (h : 0 < m) where
      again : m - 1 + 1 ≡ m
      again = omega arith

      -- those that are left are lent
      abbrev pub part : List ℕ
      part = take (m - 1 + 1) left

      part_is : part ≡ take m left
      part_is = ap (λ (k : ℕ). take k left) again

      part_long : length part ≡ m
      part_long = ap length part_is ∙ length-take-le m left g.there

      part_waiting : Waiting p lent part
      part_waiting = rw part_is g.waiting

      part_some : 0 < length part
      part_some = omega (arith, part_long)

      module _ (next : Option Float) (lent₁ : Routes) (out : List ℕ) (l : length out ≡ length part)
          (e : held_by next (plan_of lent₁) ≡ move_stop p saved (so_far (plan_of lent) added) (get_or part (first_largest p.demand part) 0))
          (f : take (length part - 1) out ≡ erase (first_largest p.demand part) part) where
        abbrev pub whole : List ℕ
        whole = out ++ drop (m - 1 + 1) left

        left_is : take (m - 1) whole ≡ erase (first_largest p.demand part) part
        left_is =
            take-append-le (m - 1) out (drop (m - 1 + 1) left) (omega (arith, l, part_long))
            ∙ ap (λ (k : ℕ). take (k - 1) out) (sym part_long) ∙ f

        step : move_all p saved (in_order p.demand (length left₀) left₀) (plan_of lent₀)
            ≡ move_on p saved (held_by next (plan_of lent₁)) (in_order p.demand (m - 1) (take (m - 1) whole))
        step = g.same ∙ ap (λ (xs : List ℕ). move_on p saved (Some (so_far (plan_of lent) added)) (in_order p.demand m xs)) (sym part_is)
            ∙ order_more p m h part (take (m - 1) whole) left_is saved (so_far (plan_of lent) added)
            ∙ ap (λ (o : Option Moved). move_on p saved o (in_order p.demand (m - 1) (take (m - 1) whole))) (sym e)

        pub moving_stuck : next ≡ None → None ≡ move_all p saved (in_order p.demand (length left₀) left₀) (plan_of lent₀)
        moving_stuck q =
            sym (step ∙ ap (λ (n : Option Float). move_on p saved (held_by n (plan_of lent₁)) (in_order p.demand (m - 1) (take (m - 1) whole))) q
            ∙ move_on_none p saved (in_order p.demand (m - 1) (take (m - 1) whole)))

        pub moving_more : (sum : Float) → next ≡ Some sum → Kept p.roads.size next (total lent.lengths.now + 1) lent₁ → Keeps lent lent₁
            → Moving p saved lent₀ left₀ lent₁ whole sum (m - 1)
        moving_more sum q k same =
            let w : Grown p.roads.size (total lent.lengths.now + 1) lent₁ = subst (λ (n : Option Float). Kept p.roads.size n (total lent.lengths.now + 1) lent₁) q k in
            record {
              waiting = waiting_more p lent part part_waiting part_some lent₁ (take (m - 1) whole) w same left_is;
              there = omega (arith, length-append out (drop (m - 1 + 1) left), l, part_long);
              sum = omega (arith, w.sum, g.sum);
              kept = keeps_on g.kept same;
              same = step ∙ ap (λ (n : Option Float). move_on p saved (held_by n (plan_of lent₁)) (in_order p.demand (m - 1) (take (m - 1) whole))) q;
            }

    pub moving_done : m ≤ 0 → Some (so_far (plan_of lent) added) ≡ move_all p saved (in_order p.demand (length left₀) left₀) (plan_of lent₀)
    unfolding smallest
    moving_done h =
        let z : m ≡ 0 = omega arith in
        sym (g.same ∙ ap (λ (k : ℕ). move_on p saved (Some (so_far (plan_of lent) added)) (in_order p.demand k (take m left))) z
        ∙ move_on_end p saved (Some (so_far (plan_of lent) added)))
