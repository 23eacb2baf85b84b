-- Laws of specs/Pass on the positions of one kept part, each from the facts that the code has where it needs it. Assumes nothing.
use Prim.Native.Nat.{ℕ, suc}
use mathlib.Core.Path.{◌≡◌, refl, sym, ◌∙◌}
use mathlib.Core.Bool.{Bool, true, false}
use mathlib.Core.List.{List, []}
use Rattle.std.proofs.Common.{Option}
use lib.ListN.{length}
use Rattle.ejection.specs.laws.Loops.{loop, loop_same}
use Rattle.ejection.specs.models.Problem.{Problem, of_demand, problem_of}
use Rattle.ejection.specs.route_cost.Route.{insertion_cost}
use Rattle.ejection.specs.route_load.Feasible.{has_room}
use Rattle.ejection.specs.LocalSearchReadLaws.{room_any}
use Rattle.ejection.specs.quick_test.Quick.{Times, times as times-along}
use Rattle.ejection.specs.route_times.Prepared.{Prepared, prepared_missed, prepared_read, prepared_any}
use Rattle.ejection.specs.insertion.Pass.{may_pass}
use Rattle.ejection.specs.declared.Ejection.{Ejection}
use Rattle.ejection_positions.specs.declared.Out.{Out}
use Rattle.ejection.specs.Eject.{try_in_kept, try_kept, try_left}
use Rattle.ejection_positions.specs.Pass.{none_outranks, none_outranks_stays, pass_in_kept, pass_in_kept_room, try_in_kept_untimed}

-- ---- a turn of the loop over positions

abbrev pub pass_out : Problem → ℕ → Out → List ℕ → Times → ℕ → Option Ejection → Option Ejection
pass_out p c o left held = pass_in_kept p c o.failed o.route o.first o.second left held

-- ---- what is kept

-- the loop over positions may read the times that are held
positions_read : (p : Problem) (c n k i j : ℕ) (left : List ℕ) (best : Option Ejection) (w : Bool) (held : Times) → Prepared p left w held → w ≡ true
    → try_kept p c n k i j left (times-along p left) best ≡ loop (suc (length left)) (try_in_kept p c n k i j left held) best
unfolding try_kept
positions_read p c n k i j left best w held h e =
    prepared_read p left w held h
    (λ (o : Option Times). try_kept p c n k i j left o best)
    (λ (t : Times). loop (suc (length left)) (try_in_kept p c n k i j left t) best)
    (λ t. refl)
    (λ f t u. loop_same (suc (length left)) (try_in_kept p c n k i j left t) (try_in_kept p c n k i j left u) best
    (λ pos b. try_in_kept_untimed p c n k i j left t pos b u f))
    e

-- there is no room; the departures miss a window; the positions are tried
module _ (p : Problem) (c : ℕ) (o : Out) (left : List ℕ) (best : Option Ejection) (v : Bool) (ev : v ≡ has_room (of_demand p.demand p.vehicle) left c) where
  abbrev unladen : Problem
  unladen = problem_of [] p.places p.roads p.vehicle

  abbrev left_out : Option Ejection
  left_out = try_left p c o.failed o.route o.first o.second left best

  room : v ≡ has_room p left c
  room = room_any p left c v ev

  pub kept_full : v ≡ false → best ≡ left_out
  unfolding try_left
  kept_full f = rw (← room, f)

  module _ (h : v ≡ true) (w : Bool) (held : Times) (q : Prepared unladen left w held) where
    prepared : Prepared p left w held
    prepared = prepared_any p left w held q

    pub kept_missed : w ≡ false → best ≡ left_out
    unfolding try_left try_kept
    kept_missed f = rw (← room, h, prepared_missed p left w held prepared f)

    -- no demand is read by a turn
    turn : (pos : ℕ) (b : Option Ejection) → pass_out unladen c o left held pos b
        ≡ try_in_kept p c o.failed o.route o.first o.second left held pos b
    unfolding pass_in_kept may_pass
    turn pos b = pass_in_kept_room p c o.failed o.route o.first o.second left held pos b (sym room ∙ h)

    pub kept_tried : (x : Option Ejection) → w ≡ true → x ≡ loop (suc (length left)) (pass_out unladen c o left held) best → x ≡ left_out
    unfolding try_left
    kept_tried x e ex =
        ex
        ∙ loop_same (suc (length left)) (pass_out unladen c o left held)
        (try_in_kept p c o.failed o.route o.first o.second left held) best turn
        ∙ sym (rw (← room, h) (positions_read p c o.failed o.route o.first o.second left best w held prepared e))

  -- no position ranks first: each leaves the best so far
  pub kept_beaten : v ≡ true → (b : Bool) → b ≡ none_outranks p.roads p.vehicle.depot_id c o.failed left best → b ≡ true → best ≡ left_out
  unfolding try_left none_outranks insertion_cost
  kept_beaten h b eb f =
      sym (rw (← room, h) (none_outranks_stays p c o.failed o.route o.first o.second left best (sym eb ∙ f) (times-along p left)))

pub ruleset kept_laws = (kept_full, kept_missed, kept_tried, kept_beaten)
