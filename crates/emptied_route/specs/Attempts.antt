-- What the code asks of an attempt, and what it leaves of the two slices. Assumes nothing.
use Rattle.std.specs.Prelude.{ℕ, ◌-◌, ◌<◌, ◌≡◌, Bool, true, false, List, [], ◌∷◌, ◌++◌, length, take, Float}
use Rattle.std.specs.Prelude.{Option}
use Rattle.route_removal.specs.laws.Edits.{erase}
use Rattle.moved_stops.specs.models.Problem.{Problem}
use Rattle.route_removal.specs.plan.Plan.{Plan, route, total}
use Rattle.route_removal.specs.plan.Given.{plan_of}
use Rattle.route_removal.specs.plan.declared.routes.Routes.{Routes}
use Rattle.moved_stops.specs.local_search.Options.{bind}
use Rattle.moved_stops.specs.local_search.Planned.{Planned}
use Rattle.moved_stops.specs.elimination_moves.Eliminate.{moving, move_all, if_gained}
use Rattle.moved_stops.specs.evaluation.Given.{of_instance}
use Rattle.emptied_route.specs.declared.elimination.Elimination.{Elimination}

-- the problem that a search is over
abbrev pub of_elimination : Elimination → Problem
of_elimination e = of_instance e.instance.now

-- route r is to go from a plan
pub record Attempted (p : Problem) (lent : Routes) (r : ℕ) : Type 0 where
  pub planned : Planned p.roads.size (plan_of lent)
  pub there : r < length lent.lengths.now

-- its stops moved for less than `saved`
abbrev pub emptied : Problem → Float → Plan → ℕ → Option Plan
emptied p saved routes r = bind (move_all p saved (moving p (route r routes)) (erase r routes)) (if_gained p saved)

-- the lengths of one route less, where the last length is not one any more
abbrev pub fewer : List ℕ → List ℕ → List ℕ
fewer before lengths = take (length before - 1) lengths

-- an accepted attempt leaves as many stops, and the last length is 0
pub record Accepted (before lengths : List ℕ) : Type 0 where
  pub sum : total (fewer before lengths) ≡ total before
  pub last : lengths ≡ fewer before lengths ++ 0 ∷ []

-- a refused one leaves both slices as they were
pub record Left (r : Bool) (old new : Routes) : Type 0 where
  pub accepted : r ≡ true → Accepted old.lengths.now new.lengths.now
  pub lengths_back : r ≡ false → new.lengths.now ≡ old.lengths.now
  pub stops_back : r ≡ false → new.stops.now ≡ old.stops.now
