-- The place for a stop: the first candidate by cost that passes (route_elimination.rs, the body of `for c in moving`). Assumes nothing.
use Rattle.std.specs.Prelude.{ℕ, suc, cond, not, ◌||◌, length, Float}
use mathlib.Core.List.{List, [], ◌∷◌, map, flat_map}
use Rattle.std.specs.Prelude.{Option, None, Some}
use Rattle.std.specs.Float.Ieee.{le}
use Rattle.reinsertion_worth.specs.floats.Binary64.{◌⊕◌, 0f, is_finite, total_less}
use Rattle.reinsertion_worth.specs.laws.Edits.{insert_at}
use Rattle.reinsertion_worth.specs.laws.Keeps.{keep}
use Rattle.reinsertion_worth.specs.laws.Sorts.{range, sort_by}
use Rattle.reinsertion_worth.specs.models.Problem.{Problem}
use Rattle.reinsertion_worth.specs.plan.Plan.{Plan, route}
use Rattle.reinsertion_worth.specs.route_cost.declared.Insertion.{Insertion}
use Rattle.reinsertion_worth.specs.route_load.Feasible.{has_room, checked}
use Rattle.reinsertion_worth.specs.Worth.{soft, insertion_worth}

-- the candidates for c in route k: every position, but for costs that are not finite where a window is soft
unfoldable pub positions : Problem → ℕ → ℕ → List ℕ → List Insertion
positions p c k r =
    keep (λ x. not (soft p) || is_finite x.cost)
    (map (λ pos. record { cost = insertion_worth p r pos c; route = k; pos = pos }) (range 0 (suc (length r))))

-- none in a route that has no room
unfoldable pub candidates_in : Problem → ℕ → ℕ → List ℕ → List Insertion
candidates_in p c k r = cond (has_room p r c) (positions p c k r) []

-- over routes, then positions
unfoldable pub candidates : Problem → ℕ → Plan → List Insertion
candidates p c rest = flat_map (λ k. candidates_in p c k (route k rest)) (range 0 (length rest))

-- read of no list
abbrev pub nowhere : Insertion
nowhere = record { cost = 0f; route = 0; pos = 0 }

-- "candidates by cost, stable": `total_cmp`
abbrev pub by_cost : List Insertion → List Insertion
by_cost xs = sort_by (λ x y. total_less x.cost y.cost) nowhere xs

-- the route of a candidate with c put in
abbrev pub trial : Plan → ℕ → Insertion → List ℕ
trial rest c x = insert_at x.pos c (route x.route rest)

-- the first candidate that passes the check, where it is needed: "stop at added + cost ≥ saved"
unfoldable pub first_passing : Problem → Plan → ℕ → Float → Float → List Insertion → Option Insertion
first_passing p rest c added saved [] = None
first_passing p rest c added saved (x ∷ xs) =
    let later = first_passing p rest c added saved xs in
    cond (le saved (added ⊕ x.cost)) None (cond (checked p (trial rest c x)) (Some x) later)
