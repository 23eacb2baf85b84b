-- The loop over the moves: its invariant, and what it leaves. Assumes nothing.
use Prim.Native.Nat.{ℕ, ◌+◌, ◌*◌, ◌≤◌, ◌<◌, ◌^◌, zero-le}
use native.Mathlib.Omega.{arith}
use mathlib.Core.Path.{◌≡◌, refl, ap, ◌∙◌}
use mathlib.Core.List.{List}
use lib.ListN.{length}
use borrow.Author.Tests.{lt-ltb, le-ltb}
use Rattle.pair_move.specs.laws.Loops.{loop, loop_none, loop_more, loop_end}
use Rattle.pair_move.specs.models.Problem.{Problem}
use Rattle.pair_move.specs.plan.Plan.{Plan, flat, total, occurs}
use Rattle.pair_move.specs.plan.Given.{plan_of, Keeps, Becomes, keeps_same, becomes_same}
use Rattle.pair_move.specs.plan.declared.routes.Routes.{Routes}
use Rattle.pair_move.specs.plan.Slices.{length_split, holds_self, holds_number}
use Rattle.pair_move.specs.local_search.Planned.{Planned, planned_as}
use Rattle.pair_move.specs.perturbation.Perturb.{Drawn, move, perturb}
use Rattle.pair_move.specs.perturbation.Parts.{Movable, drawn}
use Rattle.pair_move.specs.perturbation.declared.draws.Draws.{Draws}
use Rattle.pair_move.specs.perturbation.Moves.{move_places}
use Rattle.pair_move.specs.PerturbationMoveDraws.{move_draws}

-- fewer than two routes
module _ (p : Problem) (old : Routes) (draws : Draws) (h : length old.lengths.now < 2) where
  few_is : perturb p draws.tape.now (drawn old draws) ≡ drawn old draws
  unfolding perturb
  few_is = rw (length_split old.lengths.now old.stops.now, lt-ltb (length old.lengths.now) 2 h)

  pub few_plan : Becomes old (perturb p draws.tape.now (drawn old draws)).routes (total old.lengths.now) old
  few_plan = rw few_is (becomes_same old)

  pub few_draws : draws.next ≡ (perturb p draws.tape.now (drawn old draws)).draws
  few_draws = rw few_is

-- before turn i, from the plan `old` and `draws` on
pub record Perturbing (p : Problem) (n : ℕ) (old : Routes) (draws : Draws) (r : Routes) (w : List ℕ) (now : Draws) (i : ℕ) : Type 0 where
  pub planned : Planned n (plan_of r)
  pub room : length r.stops.now ≤ length w
  pub many : 2 ≤ length r.lengths.now
  pub turns : i ≤ 100
  pub countable : draws.next + 500 < 2 ^ 64
  pub tape : now.tape ≡ draws.tape
  pub counted : now.next ≤ draws.next + 5 * i
  pub sum : total r.lengths.now ≡ total old.lengths.now
  pub kept : Keeps old r
  pub so_far : drawn r now ≡ loop i (λ _. move p draws.tape.now) (drawn old draws)

module _ (p : Problem) (n : ℕ) (old : Routes) (draws : Draws) where
  pub perturbing_start : (w : List ℕ) → Planned n (plan_of old) → length old.stops.now ≤ length w → draws.next + 500 < 2 ^ 64
      → 2 ≤ length old.lengths.now → Perturbing p n old draws old w draws 0
  perturbing_start w r e k h =
      record {
        planned = r;
        room = e;
        many = h;
        turns = zero-le;
        countable = k;
        tape = refl;
        counted = omega arith;
        sum = refl;
        kept = keeps_same old;
        so_far = loop_none (λ _. move p draws.tape.now) (drawn old draws);
      }

  module _ (r : Routes) (w : List ℕ) (now : Draws) (i : ℕ) (g : Perturbing p n old draws r w now i) where
    pub perturbing_movable : i < 100 → Movable n r now
    perturbing_movable h = record { planned = g.planned; countable = omega (arith, g.countable, g.counted) }

    pub perturbing_more : (r₁ : Routes) (w₁ : List ℕ) (now₁ : Draws) → i < 100
        → Becomes r (move p now.tape.now (drawn r now)).routes (total r.lengths.now) r₁ → now₁.tape ≡ now.tape
        → now₁.next ≡ (move p now.tape.now (drawn r now)).draws → length w₁ ≡ length w → Perturbing p n old draws r₁ w₁ now₁ (i + 1)
    perturbing_more r₁ w₁ now₁ h m same drew ew =
        let two : 2 ≤ length (plan_of r) = rw length_split g.many in
        let number : length (flat (plan_of r₁)) ≤ length (flat (plan_of r)) =
        omega (arith, m.sum, holds_number (holds_self r.lengths.now r.stops.now r.lent.inside) r.lent.inside, holds_number (holds_self r₁.lengths.now r₁.stops.now r₁.lent.inside) r₁.lent.inside) in
        let places : (c : ℕ) → occurs c (plan_of r₁) ≡ occurs c (plan_of r) =
        λ c. ap (λ (x : Plan). occurs c x) m.routes ∙ move_places p now.tape.now (drawn r now) two c in
        record {
          planned = planned_as n (plan_of r) (plan_of r₁) number places g.planned;
          room = omega (arith, g.room, m.kept.room);
          many = omega (arith, g.many, m.kept.count);
          turns = omega arith;
          countable = g.countable;
          tape = same ∙ g.tape;
          counted = omega (arith, g.counted, drew, move_draws p now.tape.now (drawn r now));
          sum = m.sum ∙ g.sum;
          kept =
              record {
                same_lengths = m.kept.same_lengths ∙ g.kept.same_lengths;
                same_stops = m.kept.same_stops ∙ g.kept.same_stops;
                count = m.kept.count ∙ g.kept.count;
                room = m.kept.room ∙ g.kept.room;
              };
          so_far = loop_more (λ _. move p draws.tape.now) (drawn old draws) i (drawn r now) (drawn r₁ now₁) g.so_far (rw (← g.tape, m.routes, drew));
        }

    module _ (h : 100 ≤ i) where
      end_is : drawn r now ≡ perturb p draws.tape.now (drawn old draws)
      unfolding perturb
      end_is =
          let z : i ≡ 100 = omega (arith, g.turns) in
          let e : drawn r now ≡ loop 100 (λ _. move p draws.tape.now) (drawn old draws) =
          loop_end (λ _. move p draws.tape.now) (drawn old draws) i 100 (drawn r now) g.so_far z in
          rw (length_split old.lengths.now old.stops.now, le-ltb (length old.lengths.now) 2 (omega (arith, g.many, g.kept.count))) e

      pub perturbing_plan : Becomes old (perturb p draws.tape.now (drawn old draws)).routes (total old.lengths.now) r
      perturbing_plan = record { routes = ap (λ (t : Drawn). t.routes) end_is; sum = g.sum; kept = g.kept }

      pub perturbing_draws : now.next ≡ (perturb p draws.tape.now (drawn old draws)).draws
      perturbing_draws = ap (λ (t : Drawn). t.draws) end_is

pub ruleset perturb_laws = (few_plan, few_draws, perturbing_start, perturbing_movable, perturbing_more, perturbing_plan, perturbing_draws)
