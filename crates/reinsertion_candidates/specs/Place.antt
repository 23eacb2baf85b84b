-- The place for a stop by one pass over routes and positions: no list of candidates is made or sorted. Kept is the first least of the
-- candidates that end the search through the sorted list, which are those that reach the cut and those that pass the check; it is the place
-- unless it reaches the cut (`place_is`, in proofs/PlaceIs). Assumes nothing.
use Prim.Native.Nat.{ℕ, suc}
use Rattle.std.specs.Prelude.{Bool, not, ◌||◌, length, Float}
use mathlib.Core.List.{List}
use Rattle.std.proofs.Math.Bool.{true, cond}
use Rattle.std.specs.Prelude.{Option, None, Some}
use Rattle.std.specs.Float.Ieee.{le}
use Rattle.reinsertion_worth.specs.floats.Binary64.{◌⊕◌, is_finite, total_less}
use Rattle.reinsertion_worth.specs.laws.Edits.{insert_at}
use Rattle.reinsertion_worth.specs.laws.Loops.{loop}
use Rattle.reinsertion_worth.specs.models.Problem.{Problem}
use Rattle.reinsertion_worth.specs.plan.Plan.{Plan, route}
use Rattle.reinsertion_worth.specs.route_cost.declared.Insertion.{Insertion}
use Rattle.reinsertion_worth.specs.route_load.Feasible.{has_room, checked}
use Rattle.reinsertion_worth.specs.Worth.{soft, insertion_worth}

-- ---- the pass

-- with a soft window a cost that is not finite makes no candidate
abbrev pub counts : Problem → Float → Bool
counts p x = not (soft p) || is_finite x

-- a cost comes before that of the best so far by `total_cmp`
abbrev pub comes_first : Float → Option Insertion → Bool
comes_first x None = true
comes_first x (Some best) = total_less x best.cost

-- a candidate that ends the search through the sorted list: "stop at added + cost ≥ saved", or it passes the check where it is needed
abbrev pub settles : Problem → ℕ → Float → Float → List ℕ → ℕ → Float → Bool
settles p c added saved r pos x = le saved (added ⊕ x) || checked p (insert_at pos c r)

-- the best so far after a look at position pos of route k
unfoldable pub look_at : Problem → ℕ → Float → Float → ℕ → List ℕ → ℕ → Option Insertion → Option Insertion
look_at p c added saved k r pos best =
    let x = insertion_worth p r pos c in
    cond (counts p x) (cond (comes_first x best) (cond (settles p c added saved r pos x) (Some (record { cost = x; route = k; pos = pos })) best) best) best

-- after route k: every position, its end too, where it has room
unfoldable pub look_through : Problem → ℕ → Float → Float → ℕ → List ℕ → Option Insertion → Option Insertion
look_through p c added saved k r best = cond (has_room p r c) (loop (suc (length r)) (look_at p c added saved k r) best) best

-- after every route
unfoldable pub look_over : Problem → ℕ → Float → Float → Plan → Option Insertion
look_over p c added saved rest = loop (length rest) (λ k. look_through p c added saved k (route k rest)) None

-- none where the best reaches the cut
unfoldable pub unless_cut : Float → Float → Option Insertion → Option Insertion
unless_cut added saved None = None
unless_cut added saved (Some x) = cond (le saved (added ⊕ x.cost)) None (Some x)
