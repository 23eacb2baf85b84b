-- A loop over the routes of a plan in two slices: where route k lies among the stops, for every loop that visits them. Assumes nothing.
use Prim.Native.Nat.{ℕ, ◌+◌, ◌-◌, ◌≤◌, ◌<◌}
use native.Mathlib.Omega.{arith}
use mathlib.Core.Path.{◌≡◌, refl, sym}
use mathlib.Core.List.{List, []}
use lib.ListN.{length, get_or, take, drop}
use mir.Syntax.{w64}
use mir.Val.{Fits}
use Rattle.plan.specs.laws.All.{All, all_get}
use Rattle.evaluation_laws.specs.models.Problem.{Stops}
use Rattle.plan.specs.Plan.{Lent, split, route, total, offset}
use Rattle.plan.specs.Slices.{length_split, offset_more, route_within, route_part}

-- route k begins at `at`; every route is one of stops
pub record Visiting (n : ℕ) (lengths stops : List ℕ) (at k : ℕ) : Type 0 where
  pub lent : Lent lengths stops
  pub routes : All (Stops n) (split lengths stops)
  pub within : k ≤ length lengths
  pub begins : at ≡ offset lengths k

module _ (n : ℕ) (lengths stops : List ℕ) where
  pub visit_start : Lent lengths stops → All (Stops n) (split lengths stops) → Visiting n lengths stops 0 0
  unfolding total
  visit_start l r = record { lent = l; routes = r; within = omega arith; begins = refl }

  module _ (at k : ℕ) (g : Visiting n lengths stops at k) (h : k < length lengths) where
    pub part_end : at + get_or lengths k 0 ≤ length stops
    part_end = omega (arith, g.begins, g.lent.inside, route_within lengths k h)

    pub part_end_fits : Fits w64 (at + get_or lengths k 0)
    part_end_fits = record { fits = omega (arith, part_end, g.lent.few) }

    pub part_length_fits : Fits w64 (get_or lengths k 0)
    part_length_fits = record { fits = omega (arith, part_end, g.lent.few) }

    -- what is lent is route k
    pub part_is : take (at + get_or lengths k 0 - at) (drop at stops) ≡ route k (split lengths stops)
    part_is = route_part lengths stops k at (at + get_or lengths k 0) g.begins refl

    pub part_stops : Stops n (take (at + get_or lengths k 0 - at) (drop at stops))
    part_stops = rw part_is (all_get k [] g.routes (rw (length_split lengths stops) h))

    pub visit_more : Visiting n lengths stops (at + get_or lengths k 0) (k + 1)
    visit_more = record { lent = g.lent; routes = g.routes; within = omega arith; begins = rw g.begins (sym (offset_more lengths k h)) }

pub ruleset visit_laws = (visit_start, part_end, part_end_fits, part_length_fits, part_stops, visit_more)
