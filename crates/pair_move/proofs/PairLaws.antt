-- A move between two routes, either of which may be empty: laws of the definitions of perturbation, specs/Perturb and specs/Parts, each from the facts
-- that the code has where it needs it. Assumes nothing.
use Prim.Native.Nat.{ℕ, ◌+◌, ◌<◌}
use native.Mathlib.Omega.{arith}
use mathlib.Core.Path.{◌≡◌, refl, sym, ◌∙◌}
use mathlib.Core.Bool.{true, false}
use mathlib.Core.List.{List, [], ◌∷◌}
use lib.ListN.{length, get_or}
use Rattle.drawn_moves.specs.models.Problem.{Problem}
use Rattle.drawn_moves.specs.plan.Plan.{route, total, non_empty}
use Rattle.drawn_moves.specs.plan.Given.{plan_of, Becomes, becomes_same}
use Rattle.drawn_moves.specs.plan.declared.routes.Routes.{Routes}
use Rattle.drawn_moves.specs.plan.Slices.{length_split, length_route}
use Rattle.drawn_moves.specs.perturbation.Perturb.{both_non_empty, try_move, Drawn, move_between}
use Rattle.drawn_moves.specs.perturbation.Parts.{Pair, drawn}
use Rattle.drawn_moves.specs.perturbation.declared.draws.Draws.{Draws}
use Rattle.drawn_moves.specs.perturbation.Moves.{Between}

module _ (r : Routes) (a b : ℕ) (w : Pair (plan_of r) a b) where
  pub pair_first : a < length r.lengths.now
  pair_first = rw length_split at w.first_in

  pub pair_second : b < length r.lengths.now
  pair_second = rw length_split at w.second_in

has_none : (r : List ℕ) → length r ≡ 0 → non_empty r ≡ false
unfolding non_empty
has_none [] e = refl
has_none (c ∷ r) e = absurd (omega arith)

has_some : (r : List ℕ) → (length r ≡ 0 → ⊥) → non_empty r ≡ true
unfolding non_empty
has_some [] e = absurd (e refl)
has_some (c ∷ r) e = refl

module _ (r : Routes) (k : ℕ) where
  -- route k, by its length
  none_there : get_or r.lengths.now k 0 ≡ 0 → non_empty (route k (plan_of r)) ≡ false
  none_there e = has_none (route k (plan_of r)) (length_route r.lengths.now r.stops.now r.lent.inside k ∙ e)

  some_there : (get_or r.lengths.now k 0 ≡ 0 → ⊥) → non_empty (route k (plan_of r)) ≡ true
  some_there f = has_some (route k (plan_of r)) (λ z. f (sym (length_route r.lengths.now r.stops.now r.lent.inside k) ∙ z))

module _ (r : Routes) (a b : ℕ) where
  pub between : Pair (plan_of r) a b → (get_or r.lengths.now a 0 ≡ 0 → ⊥) → (get_or r.lengths.now b 0 ≡ 0 → ⊥) → Between (plan_of r) a b
  between w f e =
      record { first_in = w.first_in; second_in = w.second_in; apart = w.apart; full = rw (some_there r a f, some_there r b e) }

module _ (p : Problem) (old : Routes) (draws : Draws) (a b : ℕ) where
  abbrev moved : Drawn
  moved = move_between p draws.tape.now a b (drawn old draws)

  none_moved : both_non_empty a b (plan_of old) ≡ false → moved ≡ record { routes = plan_of old; draws = draws.next + 2 }
  unfolding move_between
  none_moved f = rw f

  first_none : get_or old.lengths.now a 0 ≡ 0 → moved ≡ record { routes = plan_of old; draws = draws.next + 2 }
  first_none e = none_moved (rw (none_there old a e))

  second_none : (get_or old.lengths.now a 0 ≡ 0 → ⊥) → get_or old.lengths.now b 0 ≡ 0 → moved ≡ record { routes = plan_of old; draws = draws.next + 2 }
  second_none f e = none_moved (rw (some_there old a f, none_there old b e))

  still : moved ≡ record { routes = plan_of old; draws = draws.next + 2 } → Becomes old moved.routes (total old.lengths.now) old
  still e = rw e (becomes_same old)

  pub first_none_plan : get_or old.lengths.now a 0 ≡ 0 → Becomes old moved.routes (total old.lengths.now) old
  first_none_plan e = still (first_none e)

  pub first_none_draws : (d : ℕ) → d ≡ draws.next + 2 → get_or old.lengths.now a 0 ≡ 0 → d ≡ moved.draws
  first_none_draws d ed e = rw (ed, first_none e)

  pub second_none_plan : (get_or old.lengths.now a 0 ≡ 0 → ⊥) → get_or old.lengths.now b 0 ≡ 0 → Becomes old moved.routes (total old.lengths.now) old
  second_none_plan f e = still (second_none f e)

  pub second_none_draws : (d : ℕ) → d ≡ draws.next + 2 → (get_or old.lengths.now a 0 ≡ 0 → ⊥) → get_or old.lengths.now b 0 ≡ 0 → d ≡ moved.draws
  second_none_draws d ed f e = rw (ed, second_none f e)

  module _ (w : Between (plan_of old) a b) where
    pub moved_plan : (n : ℕ) (new : Routes) → Becomes old (try_move p draws.tape.now draws.next a b (plan_of old)) n new → Becomes old moved.routes n new
    unfolding move_between
    moved_plan n new h = rw w.full h

    pub moved_draws : (d : ℕ) → d ≡ draws.next + 5 → d ≡ moved.draws
    unfolding move_between
    moved_draws d ed = rw (ed, w.full)

pub ruleset pair_laws = (between, first_none_plan, first_none_draws, second_none_plan, second_none_draws, moved_plan, moved_draws)
