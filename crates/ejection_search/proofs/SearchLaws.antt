-- Laws of the search for an ejection, of one stop or only then of two, each from the facts that the code has where it needs it. Assumes nothing.
use Prim.Native.Nat.{ℕ, ◌≤◌, ◌<◌}
use native.Mathlib.Omega.{arith}
use mathlib.Core.Path.{◌≡◌}
use mathlib.Core.Bool.{true, false}
use mathlib.Core.List.{List}
use lib.ListN.{length}
use Rattle.std.proofs.Common.{Option, None, Some}
use Rattle.std.specs.Option.{MatchOption}
use Rattle.route_ejection.specs.models.Problem.{Problem}
use Rattle.route_ejection.specs.local_search.Options.{or_else}
use Rattle.route_ejection.specs.plan.Plan.{Plan, route, split, total}
use Rattle.route_ejection.specs.plan.Slices.{length_split, route_within, length_route}
use Rattle.route_ejection.specs.ejection.declared.Ejection.{Ejection}
use Rattle.route_ejection.specs.ejection.Eject.{eject_one, eject_two, eject}
use Rattle.ejection_search.specs.Some.{eject_some}

-- a route of the plan is no longer than all of them
pub part_short : (ls s : List ℕ) → total ls ≤ length s → (k : ℕ) → k < length (split ls s) → {r : List ℕ} → r ≡ route k (split ls s) → length r ≤ total ls
part_short ls s u k h e = rw (e, length_route ls s u k) (omega (arith, route_within ls k (omega (arith, h, length_split ls s))))

-- P is what is known of the answer x where no single one works
module _ (p : Problem) (routes : Plan) (c : ℕ) (failures : List ℕ) (x : Option Ejection) (P : Type 0) where
  pub eject_both : (one : Option Ejection) → one ≡ eject_some false p routes c failures → (P → x ≡ eject_some true p routes c failures)
      → MatchOption one P (λ e. x ≡ Some e) → x ≡ eject p routes c failures
  unfolding eject eject_some eject_one eject_two or_else
  eject_both None e second h = rw (← e) (second h)
  eject_both (Some y) e second h = rw (← e) h
