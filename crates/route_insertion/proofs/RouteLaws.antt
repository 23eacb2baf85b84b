-- Laws of the definitions of `insertion` (specs/Cheapest) on one route, each from the facts that the code has where it needs it. Assumes nothing.
use Prim.Native.Nat.{ℕ, suc}
use mathlib.Core.Path.{◌≡◌, refl, sym, ◌∙◌}
use mathlib.Core.Bool.{Bool, true, false}
use mathlib.Core.List.{List, []}
use Rattle.std.proofs.Common.{Option}
use lib.ListN.{length}
use Rattle.insertion.specs.laws.Loops.{loop, loop_same}
use Rattle.insertion.specs.models.Problem.{Problem, of_demand, problem_of}
use Rattle.insertion.specs.route_cost.declared.Insertion.{Insertion}
use Rattle.insertion.specs.route_load.Feasible.{has_room}
use Rattle.insertion.specs.LocalSearchReadLaws.{room_any}
use Rattle.insertion.specs.quick_test.Quick.{Times, times as times-along}
use Rattle.insertion.specs.route_times.Prepared.{Prepared, prepared_missed, prepared_read, prepared_any}
use Rattle.insertion.specs.Cheapest.{try_position, try_positions, try_route}
use Rattle.insertion.specs.Pass.{may_pass_any, pass_position, pass_position_room, try_position_untimed}

-- the loop over positions may read the times that are held
positions_read : (p : Problem) (c k : ℕ) (r : List ℕ) (best : Option Insertion) (w : Bool) (held : Times) → Prepared p r w held → w ≡ true
    → try_positions p c k r (times-along p r) best ≡ loop (suc (length r)) (try_position p c k r held) best
unfolding try_positions
positions_read p c k r best w held h e =
    prepared_read p r w held h
    (λ (o : Option Times). try_positions p c k r o best)
    (λ (t : Times). loop (suc (length r)) (try_position p c k r t) best)
    (λ t. refl)
    (λ f t u. loop_same (suc (length r)) (try_position p c k r t) (try_position p c k r u) best (λ i b. try_position_untimed p c k r t u i b f))
    e

-- there is no room; the departures miss a window; the positions are tried
module _ (p : Problem) (c k : ℕ) (r : List ℕ) (best : Option Insertion) (v : Bool) (ev : v ≡ has_room (of_demand p.demand p.vehicle) r c) where
  abbrev unladen : Problem
  unladen = problem_of [] p.places p.roads p.vehicle

  room : v ≡ has_room p r c
  room = room_any p r c v ev

  pub route_full : v ≡ false → best ≡ try_route p c k r best
  unfolding try_route
  route_full f = rw (← room, f)

  module _ (h : v ≡ true) (w : Bool) (held : Times) (q : Prepared unladen r w held) where
    prepared : Prepared p r w held
    prepared = prepared_any p r w held q

    pub route_missed : w ≡ false → best ≡ try_route p c k r best
    unfolding try_route try_positions
    route_missed f = rw (← room, h, prepared_missed p r w held prepared f)

    -- no demand is read by a turn
    turn : (pos : ℕ) (b : Option Insertion) → pass_position unladen c k r held pos b ≡ try_position p c k r held pos b
    unfolding pass_position
    turn pos b =
        rw (may_pass_any p r held pos c)
        (pass_position_room p c k r held pos b (sym room ∙ h))

    pub route_tried : (x : Option Insertion) → w ≡ true → x ≡ loop (suc (length r)) (pass_position unladen c k r held) best
        → x ≡ try_route p c k r best
    unfolding try_route
    route_tried x e ex =
        ex
        ∙ loop_same (suc (length r)) (pass_position unladen c k r held) (try_position p c k r held) best turn
        ∙ sym (rw (← room, h) (positions_read p c k r best w held prepared e))

pub ruleset route_laws = (route_full, route_missed, route_tried)
