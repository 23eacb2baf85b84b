-- The pool at the start. Assumes nothing.
use Prim.Native.Nat.{ℕ, ◌≤◌, ◌<◌}
use mathlib.Core.Path.{◌≡◌}
use mathlib.Core.List.{List}
use native.Mathlib.Omega.{arith}
use lib.ListN.{length, take}
use lib.Seq.{length-take-le}
use Rattle.ejection_made.specs.plan.Plan.{Lent, split, route, total}
use Rattle.ejection_made.specs.plan.Slices.{length_route, route_within}

-- a route has no more stops than the plan
pub route_few : (ls s : List ℕ) (r : ℕ) → Lent ls s → r < length ls → length (route r (split ls s)) ≤ total ls
route_few ls s r lent there = omega (arith, length_route ls s lent.inside r, route_within ls r there)

-- and the slice that the plan lies in has as many from its first cell on
pub route_there : (ls s : List ℕ) (r : ℕ) → Lent ls s → r < length ls → length (take (length (route r (split ls s))) s) ≡ length (route r (split ls s))
route_there ls s r lent there = length-take-le (length (route r (split ls s))) s (omega (arith, route_few ls s r lent there, lent.inside))

pub ruleset route_laws = (route_few, route_there)
