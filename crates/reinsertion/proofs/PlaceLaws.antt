-- Laws of the place for a stop on the positions of one route, each from the facts that the code has where it needs it. Assumes nothing.
use Prim.Native.Nat.{ℕ, suc, ◌+◌, ◌≤◌}
use native.Mathlib.Omega.{arith}
use mathlib.Core.Path.{◌≡◌, refl, ◌∙◌}
use mathlib.Core.Bool.{Bool, true, false, cond, not, ◌&&◌, ◌||◌}
use mathlib.Core.List.{List, []}
use Rattle.std.proofs.Common.{Option, Some}
use lib.ListN.{length}
use lib.Ieee.{Float}
use Rattle.reinsertion_candidates.specs.floats.Binary64.{is_finite}
use Rattle.reinsertion_candidates.specs.laws.Loops.{loop, loop_none, loop_more, loop_same}
use Rattle.reinsertion_candidates.specs.models.Problem.{Problem, of_demand, problem_of}
use Rattle.reinsertion_candidates.specs.route_cost.declared.Insertion.{Insertion}
use Rattle.reinsertion_candidates.specs.route_load.Feasible.{has_room}
use Rattle.reinsertion_candidates.specs.LocalSearchReadLaws.{room_any}
use Rattle.reinsertion_candidates.specs.declared.Move.{Move}
use Rattle.reinsertion_candidates.specs.reinsertion_worth.Worth.{soft, worth, insertion_worth, current}
use Rattle.reinsertion_candidates.specs.Place.{counts, comes_first, settles, look_at, look_through}
use Rattle.reinsertion_candidates.specs.Asked.{Looked}

-- ---- one position: no candidate that leads; it does not end the search; it does

module _ (p : Problem) (m : Move) (k : ℕ) (r : List ℕ) (pos : ℕ) (best : Option Insertion) (x : Float) (g : Looked p m r)
    (ex : x ≡ insertion_worth p r pos m.c) (s : Bool) (es : s ≡ soft p) (v : Bool) (ev : v ≡ ((not s || is_finite x) && comes_first x best)) where
  abbrev taken : Option Insertion
  taken = cond (settles p m.c m.added m.saved r pos x) (Some (record { cost = x; route = k; pos = pos })) best

  both : cond v taken best ≡ look_at p m.c m.added m.saved k r pos best
  unfolding look_at
  both = rw (← ex, ev, es) (go (counts p x) (comes_first x best))
    where
      go : (a b : Bool) → cond (a && b) taken best ≡ cond a (cond b taken best) best
      go true b = refl
      go false b = refl

  pub look_passed : v ≡ false → best ≡ look_at p m.c m.added m.saved k r pos best
  look_passed f = rw f at both

  module _ (e : v ≡ true) (w : Bool) (ew : w ≡ settles p m.c m.added m.saved r pos x) where
    led : taken ≡ look_at p m.c m.added m.saved k r pos best
    led = rw e at both

    pub look_refused : w ≡ false → best ≡ look_at p m.c m.added m.saved k r pos best
    look_refused f = rw (← ew, f) at led

    pub look_taken : w ≡ true → Some (record { cost = x; route = k; pos = pos }) ≡ look_at p m.c m.added m.saved k r pos best
    look_taken f = rw (← ew, f) at led

-- ---- the loop: what the positions before pos leave of the best so far

pub record Looking (p : Problem) (m : Move) (k : ℕ) (r : List ℕ) (before : Option Float) (first found : Option Insertion) (pos : ℕ) : Type 0 where
  pub looked : Looked p m r
  pub told : before ≡ current p r
  pub within : pos ≤ suc (length r)
  pub same : found ≡ loop pos (look_at p m.c m.added m.saved k r) first

module _ (p : Problem) (m : Move) (k : ℕ) (r : List ℕ) (before : Option Float) (first : Option Insertion) where
  pub looking_start : Looked p m r → before ≡ current p r → Looking p m k r before first first 0
  looking_start g e =
      record { looked = g; told = e; within = omega arith; same = loop_none (look_at p m.c m.added m.saved k r) first }

  module _ (found : Option Insertion) (pos : ℕ) (g : Looking p m k r before first found pos) where
    pub looking_more : (next : Option Insertion) → pos ≤ length r → next ≡ look_at p m.c m.added m.saved k r pos found
        → Looking p m k r before first next (pos + 1)
    looking_more next h e =
        record {
          looked = g.looked;
          told = g.told;
          within = omega arith;
          same = loop_more (look_at p m.c m.added m.saved k r) first pos found next g.same e;
        }

-- ---- a route: it has no room; its positions are looked at

module _ (p : Problem) (m : Move) (k : ℕ) (r : List ℕ) (best : Option Insertion) (v : Bool) (ev : v ≡ has_room (of_demand p.demand p.vehicle) r m.c) where
  -- no demand is read
  abbrev unladen : Problem
  unladen = problem_of [] p.places p.roads p.vehicle

  room : v ≡ has_room p r m.c
  room = room_any p r m.c v ev

  pub through_full : v ≡ false → best ≡ look_through p m.c m.added m.saved k r best
  unfolding look_through
  through_full f = rw (← room, f)

  turn : (pos : ℕ) (b : Option Insertion) → look_at unladen m.c m.added m.saved k r pos b ≡ look_at p m.c m.added m.saved k r pos b
  unfolding look_at insertion_worth worth
  turn pos b = refl

  pub through_along : (x : Option Insertion) → v ≡ true → x ≡ loop (suc (length r)) (look_at unladen m.c m.added m.saved k r) best
      → x ≡ look_through p m.c m.added m.saved k r best
  unfolding look_through
  through_along x h e =
      rw (← room, h) (e ∙ loop_same (suc (length r)) (look_at unladen m.c m.added m.saved k r) (look_at p m.c m.added m.saved k r) best turn)

pub ruleset through_laws = (through_full, through_along)
