-- Where a route lies among the stops, and a stop put in or taken out, in the form that the proofs of the code want. Assumes nothing.
use Rattle.std.proofs.Common.{◌≡◌, ℕ, ◌+◌, ◌-◌, ◌<◌, ◌≤◌, List, ◌++◌, length, get_or, take, drop, set, sum, ◌^◌, ◌∙◌, arith, length-append, length-drop, length-take-le, w16, w64, Fits}
use Rattle.cell_exchange.specs.laws.Edits.{insert_at, cut, cut_one, length_insert_at, length_cut}
use Rattle.plan.specs.Plan.{Plan, Holds, Lent, HasPosition, HasStop, split, route, total, offset, put_in, take_out}
use Rattle.cell_exchange.specs.Parts.{insert_at_in_use, cut_in_use}
use Rattle.plan.specs.Slices.{offset_within, route_within, stop_split, position_within, position_route, stop_within, stop_route}
use Rattle.plan.specs.Routes.{put_in_slices, take_out_slices}
use Rattle.plan.specs.Given.{Keeps, Becomes}
use Rattle.plan.specs.declared.routes.Routes.{Routes}

-- ---- the sum of the lengths before route k

pub offset_fits : (ls s : List ℕ) (k : ℕ) → Lent ls s → total (take k ls) < 2 ^ 64
offset_fits ls s k l = omega (arith, l.inside, l.few, offset_within ls k)

-- what an edit leaves is lent still
lent_still : (ls s : List ℕ) {plan : Plan} {n : ℕ} {ls₁ s₁ : List ℕ} → Lent ls s → Holds plan n ls₁ s₁ → length s₁ ≡ length s → n ≤ length s → Lent ls₁ s₁
lent_still ls s l h e m = record { inside = omega (arith, h.sum); few = omega (arith, l.few) }

-- ---- a position and a stop, where `at` is where their route begins and `used` how many stops there are

module _ (ls s : List ℕ) (k pos at : ℕ) (l : Lent ls s) (a : at ≡ offset ls k) where
  module _ (g : HasPosition (split ls s) k pos) where
    pub position_fits : Fits w64 (at + pos)
    position_fits = record { fits = omega (arith, l.inside, l.few, route_within ls k (position_route ls s k pos g), position_within ls s l k pos g) }

    pub position_in_use : (used : ℕ) → used ≡ total ls → at + pos ≤ used
    position_in_use used u = omega (arith, route_within ls k (position_route ls s k pos g), position_within ls s l k pos g)

    pub position_lent : (used : ℕ) → used ≡ total ls → total ls < length s → at + pos < length (take (used + 1) s)
    position_lent used u r = rw (length-take-le (used + 1) s (omega arith)) (omega (arith, position_in_use used u))

    module _ (used c : ℕ) {t : List ℕ} (u : used ≡ total ls) (r : total ls < length s) (e : t ≡ take (length (take (used + 1) s)) (insert_at (at + pos) c (take (used + 1) s))) where
      put_in_cells : t ≡ insert_at (at + pos) c (take used s)
      put_in_cells = e ∙ insert_at_in_use s used (at + pos) c (position_in_use used u) (omega arith)

      pub put_in_room : length (t ++ drop (used + 1) s) ≡ length s
      put_in_room =
          rw put_in_cells (simp (length-append, length-drop) (omega (arith, length_insert_at (at + pos) c (take used s) (rw (length-take-le used s (omega arith)) (position_in_use used u)), length-take-le used s (omega arith))))

      pub put_in_done : Holds (put_in k pos c (split ls s)) (total ls + 1) (set ls k (get_or ls k 0 + 1)) (t ++ drop (used + 1) s)
      put_in_done =
          rw (put_in_cells, u, a) (put_in_slices ls s k (position_route ls s k pos g) l.inside pos c (position_within ls s l k pos g))

      pub put_in_lent : Lent (set ls k (get_or ls k 0 + 1)) (t ++ drop (used + 1) s)
      put_in_lent = lent_still ls s l put_in_done put_in_room (omega arith)

  module _ (g : HasStop (split ls s) k pos) where
    pub stop_fits : Fits w64 (at + pos)
    stop_fits = record { fits = omega (arith, l.inside, l.few, route_within ls k (stop_route ls s k pos g), stop_within ls s l k pos g) }

    pub stop_there : at + pos < length s
    stop_there = omega (arith, l.inside, route_within ls k (stop_route ls s k pos g), stop_within ls s l k pos g)

    pub stop_in_use : (used : ℕ) → used ≡ total ls → at + pos + 1 ≤ used
    stop_in_use used u = omega (arith, route_within ls k (stop_route ls s k pos g), stop_within ls s l k pos g)

    pub stop_is : get_or s (at + pos) 0 ≡ get_or (route k (split ls s)) pos 0
    stop_is = rw a (stop_split ls s l.inside k pos (stop_within ls s l k pos g))

    module _ (used : ℕ) {t : List ℕ} (u : used ≡ total ls) (e : t ≡ cut (at + pos) 1 (take used s) ++ drop (length (take used s) - 1) (take used s)) where
      take_out_cells : t ++ drop used s ≡ cut (at + pos) 1 (take used s) ++ drop (used - 1) s
      take_out_cells = rw e (cut_in_use s used (at + pos) 1 (stop_in_use used u) (omega (arith, l.inside)))

      pub take_out_room : length (t ++ drop used s) ≡ length s
      take_out_room =
          rw take_out_cells (simp (length-append, length-drop) (omega (arith, length_cut (at + pos) 1 (take used s) (rw (length-take-le used s (omega (arith, l.inside))) (stop_in_use used u)), length-take-le used s (omega (arith, l.inside)), stop_in_use used u, l.inside)))

      pub take_out_done : Holds (take_out k pos (split ls s)) (total ls - 1) (set ls k (get_or ls k 0 - 1)) (t ++ drop used s)
      take_out_done =
          rw (take_out_cells, u, a, cut_one (offset ls k + pos) (take (total ls) s)) (take_out_slices ls s k (stop_route ls s k pos g) l.inside pos (stop_within ls s l k pos g))

      pub take_out_lent : Lent (set ls k (get_or ls k 0 - 1)) (t ++ drop used s)
      take_out_lent = lent_still ls s l take_out_done take_out_room (omega (arith, l.inside))

module _ (ls s : List ℕ) (used : ℕ) (u : used ≡ total ls) where
  pub room_there : total ls < length s → used < length s
  room_there g = omega arith

  pub used_there : Lent ls s → used ≤ length s
  used_there l = omega (arith, l.inside)

  pub route_in_use : (k at : ℕ) → k < length ls → at ≡ offset ls k → at + get_or ls k 0 ≤ used
  route_in_use k at h a = omega (arith, route_within ls k h)

module _ (ls s : List ℕ) (k : ℕ) (l : Lent ls s) where
  pub length_fits : k < length ls → Fits w64 (get_or ls k 0)
  length_fits h = record { fits = omega (arith, l.inside, l.few, route_within ls k h) }

  pub longer_fits : (pos : ℕ) → HasPosition (split ls s) k pos → total ls < length s → Fits w16 (get_or ls k 0 + 1)
  longer_fits pos g r = record { fits = omega (arith, l.few, route_within ls k (position_route ls s k pos g)) }

  pub shorter_there : (pos : ℕ) → HasStop (split ls s) k pos → 1 ≤ get_or ls k 0
  shorter_there pos g = omega (arith, stop_within ls s l k pos g)

module _ (ls s : List ℕ) (k pos : ℕ) where
  pub position_upto : HasPosition (split ls s) k pos → k ≤ length ls
  position_upto g = omega (arith, position_route ls s k pos g)

  pub stop_upto : HasStop (split ls s) k pos → k ≤ length ls
  stop_upto g = omega (arith, stop_route ls s k pos g)

-- the end of a route with a position
module _ (ls s : List ℕ) (k pos : ℕ) (l : Lent ls s) (g : HasPosition (split ls s) k pos) where
  pub position_length_fits : Fits w64 (get_or ls k 0)
  position_length_fits = length_fits ls s k l (position_route ls s k pos g)

  pub end_fits : (at : ℕ) → at ≡ offset ls k → Fits w64 (at + get_or ls k 0)
  end_fits at a = record { fits = omega (arith, l.inside, l.few, route_within ls k (position_route ls s k pos g)) }

pub ruleset place_laws = (position_route, position_upto, position_fits, position_in_use, position_lent, stop_route, stop_upto, stop_fits, stop_there, stop_in_use, room_there, used_there, route_in_use, length_fits, longer_fits, shorter_there)

pub ruleset edit_laws = (put_in_room, put_in_done, take_out_room, take_out_done, stop_is)

-- ---- an edit stands in the same two slices

pub keeps : (old new : Routes) → new.lengths.ghost_name ≡ old.lengths.ghost_name → new.stops.ghost_name ≡ old.stops.ghost_name
    → length new.lengths.now ≡ length old.lengths.now → length new.stops.now ≡ length old.stops.now → Keeps old new
keeps old new l s n m = record { same_lengths = l; same_stops = s; count = n; room = m }

pub becomes : (old new : Routes) {plan : Plan} {n : ℕ} → Keeps old new → Holds plan n new.lengths.now new.stops.now → Becomes old plan n new
becomes old new k h = record { routes = h.routes; sum = h.sum; kept = k }

pub ruleset lent_laws = (put_in_lent, take_out_lent)
