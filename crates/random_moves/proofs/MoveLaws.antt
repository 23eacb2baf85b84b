-- A move between two routes that are drawn: laws of the definitions of perturbation, specs/Perturb and specs/Parts, each from the facts that the code has
-- where it needs it. Assumes nothing.
use Prim.Native.Nat.{ℕ, ◌+◌, ◌-◌, ◌≤◌, ◌<◌}
use native.Mathlib.Omega.{arith}
use mathlib.Core.Path.{◌≡◌, ◌∙◌}
use mathlib.Core.List.{List}
use lib.ListN.{length}
use Rattle.pair_move.specs.models.Problem.{Problem}
use Rattle.pair_move.specs.plan.Given.{plan_of, Becomes}
use Rattle.pair_move.specs.plan.declared.routes.Routes.{Routes}
use Rattle.pair_move.specs.plan.Slices.{length_split}
use Rattle.pair_move.specs.perturbation.Perturb.{draw, move_between, other_than, move}
use Rattle.pair_move.specs.perturbation.Parts.{Pair, drawn}
use Rattle.pair_move.specs.perturbation.declared.draws.Draws.{Draws}
use Rattle.pair_move.specs.perturbation.Moves.{draw_in, other_in, other_apart}

pub drawn_below : (tape : List ℕ) (d m x : ℕ) → 0 < m → x ≡ draw tape d m → x < m
drawn_below tape d m x h e = rw e (draw_in tape d m h)

module _ (old : Routes) (draws : Draws) (a x b : ℕ) (ea : a ≡ draw draws.tape.now (draws.next + 0) (length old.lengths.now))
    (ex : x ≡ draw draws.tape.now (draws.next + 1) (length old.lengths.now - 1)) where
  pub second_below : 2 ≤ length old.lengths.now → x < length old.lengths.now - 1
  second_below h = drawn_below draws.tape.now (draws.next + 1) (length old.lengths.now - 1) x (omega arith) ex

  module _ (eb : b ≡ other_than a x) where
    pub pair_drawn : 2 ≤ length old.lengths.now → Pair (plan_of old) a b
    pair_drawn h =
        record {
          first_in = rw length_split (drawn_below draws.tape.now (draws.next + 0) (length old.lengths.now) a (omega arith) ea);
          second_in = rw (length_split, eb) (other_in a x (length old.lengths.now) (second_below h));
          apart = λ e. other_apart a x (e ∙ eb);
        }

    move_is : (p : Problem) → move_between p draws.tape.now a b (drawn old draws) ≡ move p draws.tape.now (drawn old draws)
    unfolding move
    move_is p = let z : draws.next + 0 ≡ draws.next = omega arith in rw (length_split old.lengths.now old.stops.now, ← ex, ← z, ← ea, ← eb)

    pub move_plan : (p : Problem) (n : ℕ) (new : Routes) → Becomes old (move_between p draws.tape.now a b (drawn old draws)).routes n new
        → Becomes old (move p draws.tape.now (drawn old draws)).routes n new
    move_plan p n new h = rw (← move_is p) h

    pub move_draws : (p : Problem) (r : ℕ) → r ≡ (move_between p draws.tape.now a b (drawn old draws)).draws → r ≡ (move p draws.tape.now (drawn old draws)).draws
    move_draws p r e = rw (← move_is p) e

pub ruleset move_laws = (second_below, pair_drawn, move_plan, move_draws)
