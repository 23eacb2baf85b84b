-- A move as it is drawn between two routes with stops: laws of the definitions of perturbation, specs/Perturb and specs/Parts, each from the facts that the
-- code has where it needs it. Assumes nothing.
use Prim.Native.Nat.{ℕ, ◌+◌, ◌<◌}
use native.Mathlib.Numerals.{add-one}
use native.Mathlib.Omega.{arith}
use mathlib.Core.Path.{◌≡◌}
use mathlib.Core.Bool.{Bool, true, false}
use mathlib.Core.List.{List}
use lib.ListN.{length, get_or}
use mir.Syntax.{w64}
use mir.Val.{Fits}
use Rattle.tail_exchange.specs.laws.Searches.{and_first, and_second}
use Rattle.tail_exchange.specs.models.Problem.{Problem}
use Rattle.tail_exchange.specs.plan.Plan.{HasStop, HasPosition, route, non_empty}
use Rattle.tail_exchange.specs.plan.Given.{plan_of, Becomes}
use Rattle.tail_exchange.specs.plan.declared.routes.Routes.{Routes}
use Rattle.tail_exchange.specs.plan.Slices.{length_split, length_route, route_within}
use Rattle.tail_exchange.specs.perturbation.Perturb.{draw, draw_bool, try_exchange, try_tails, try_move}
use Rattle.tail_exchange.specs.perturbation.Parts.{drawn_exchange, drawn_tails}
use Rattle.tail_exchange.specs.perturbation.Moves.{Between, non_empty_length, draw_in}

-- ---- two routes with stops

module _ (r : Routes) (a b : ℕ) (w : Between (plan_of r) a b) where
  pub first_there : a < length r.lengths.now
  first_there = rw length_split at w.first_in

  pub second_there : b < length r.lengths.now
  second_there = rw length_split at w.second_in

  pub first_full : 0 < get_or r.lengths.now a 0
  first_full =
      rw (length_route r.lengths.now r.stops.now r.lent.inside a)
      at (non_empty_length (route a (plan_of r)) (and_first (non_empty (route a (plan_of r))) (non_empty (route b (plan_of r))) w.full))

  pub second_full : 0 < get_or r.lengths.now b 0
  second_full =
      rw (length_route r.lengths.now r.stops.now r.lent.inside b)
      at (non_empty_length (route b (plan_of r)) (and_second (non_empty (route a (plan_of r))) (non_empty (route b (plan_of r))) w.full))

  pub first_longer_fits : Fits w64 (get_or r.lengths.now a 0 + 1)
  first_longer_fits = record { fits = omega (arith, r.lent.inside, r.lent.few, route_within r.lengths.now a first_there) }

  pub second_longer_fits : Fits w64 (get_or r.lengths.now b 0 + 1)
  second_longer_fits = record { fits = omega (arith, r.lent.inside, r.lent.few, route_within r.lengths.now b second_there) }

-- ---- a place that is drawn

module _ (r : Routes) (k : ℕ) (h : k < length (plan_of r)) (tape : List ℕ) (d pos : ℕ) where
  pub drawn_stop : 0 < get_or r.lengths.now k 0 → pos ≡ draw tape d (get_or r.lengths.now k 0) → HasStop (plan_of r) k pos
  drawn_stop f e =
      record { there = h; within = rw (length_route r.lengths.now r.stops.now r.lent.inside k, e) (draw_in tape d (get_or r.lengths.now k 0) f) }

  pub drawn_position : pos ≡ draw tape d (get_or r.lengths.now k 0 + 1) → HasPosition (plan_of r) k pos
  drawn_position e =
      let f : pos < get_or r.lengths.now k 0 + 1 = rw e (draw_in tape d (get_or r.lengths.now k 0 + 1) (omega arith)) in
      record { there = h; within = rw (length_route r.lengths.now r.stops.now r.lent.inside k) (omega arith) }

-- ---- the two kinds of move

module _ (p : Problem) (tape : List ℕ) (old new : Routes) (d a b i j n : ℕ) where
  pub exchange_as_drawn : i ≡ draw tape (d + 3) (get_or old.lengths.now a 0) → j ≡ draw tape (d + 4) (get_or old.lengths.now b 0)
      → Becomes old (try_exchange p a i b j (plan_of old)) n new → Becomes old (drawn_exchange p tape d a b (plan_of old)) n new
  unfolding drawn_exchange
  exchange_as_drawn ei ej h =
      rw (length_route old.lengths.now old.stops.now old.lent.inside a, length_route old.lengths.now old.stops.now old.lent.inside b, ← ei, ← ej) h

  pub tails_as_drawn : i ≡ draw tape (d + 3) (get_or old.lengths.now a 0 + 1) → j ≡ draw tape (d + 4) (get_or old.lengths.now b 0 + 1)
      → Becomes old (try_tails p a i b j (plan_of old)) n new → Becomes old (drawn_tails p tape d a b (plan_of old)) n new
  unfolding drawn_tails
  tails_as_drawn ei ej h =
      rw (length_route old.lengths.now old.stops.now old.lent.inside a, length_route old.lengths.now old.stops.now old.lent.inside b, ← add-one (get_or old.lengths.now a 0), ← add-one (get_or old.lengths.now b 0), ← ei, ← ej) h

module _ (p : Problem) (tape : List ℕ) (old new : Routes) (d a b n : ℕ) (v : Bool) (ev : v ≡ draw_bool tape (d + 2)) where
  pub exchange_tried : v ≡ true → Becomes old (drawn_exchange p tape d a b (plan_of old)) n new → Becomes old (try_move p tape d a b (plan_of old)) n new
  unfolding try_move drawn_exchange
  exchange_tried t h = rw (← ev, t) h

  pub tails_tried : v ≡ false → Becomes old (drawn_tails p tape d a b (plan_of old)) n new → Becomes old (try_move p tape d a b (plan_of old)) n new
  unfolding try_move drawn_tails
  tails_tried f h = rw (← ev, f) h

pub ruleset exchange_laws = (first_there, second_there, first_full, second_full, drawn_stop, exchange_as_drawn)

pub ruleset tails_laws = (first_there, second_there, first_longer_fits, second_longer_fits, drawn_position, tails_as_drawn)

pub ruleset tried_laws = (exchange_tried, tails_tried)
