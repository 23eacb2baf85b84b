-- A route cut in two, as `split_at` hands its parts on, and the walk over the first of them. Assumes nothing.
use Prim.Native.Nat.{ℕ, ◌≤◌}
use mathlib.Core.Path.{◌≡◌}
use mathlib.Core.List.{List}
use lib.ListN.{length, take, drop}
use Rattle.route_checks.specs.models.Problem.{Stops}
use Rattle.route_checks.specs.BreakClockStopLaws.{front_stops, tail_stops, tail_part}

module _ (n pos : ℕ) (route : List ℕ) (s : Stops n route) (h : pos ≤ length route) where
  pub front_cut : (front : List ℕ) → front ≡ take pos route → Stops n front
  front_cut front e = rw e (front_stops n pos route s h)

  pub tail_cut : (tail : List ℕ) → tail ≡ drop pos route → Stops n tail
  tail_cut tail e = rw e (rw (tail_part pos route) at (tail_stops n pos route s h))

pub ruleset cut_laws = (front_cut, tail_cut)
