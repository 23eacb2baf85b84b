-- The stops of the route that is to go, one after the other: each time the first with the largest demand of those that are left.
-- Taken out of what is left, they are `moving`. Assumes nothing.
use Rattle.std.specs.Prelude.{ℕ, suc, ◌≡◌, refl, List, ◌∷◌, Bool, cond, length, get_or, ℤ}
use Rattle.std.specs.Int.Signed.{lt_z}
use Rattle.reinsertion_candidates.specs.laws.Edits.{erase}
use Rattle.reinsertion_candidates.specs.laws.Loops.{loop}
use Rattle.reinsertion_candidates.specs.laws.Sorts.{least_at, smallest, sort_by}
use Rattle.reinsertion_candidates.specs.models.Problem.{Problem}
use Rattle.reinsertion_candidates.specs.route_load.Feasible.{demand_at}
use Rattle.elimination_moves.specs.Eliminate.{moving}

-- the demand of c is larger than that of d
abbrev pub larger : List ℤ → ℕ → ℕ → Bool
larger demand c d = lt_z (demand_at demand d) (demand_at demand c)

-- the place of the first with the largest demand
abbrev pub first_largest : List ℤ → List ℕ → ℕ
first_largest demand left = least_at (larger demand) 0 left

-- a turn of the loop that finds it
unfoldable pub larger_at : List ℤ → List ℕ → ℕ → ℕ → ℕ
larger_at demand left i best = cond (larger demand (get_or left i 0) (get_or left best 0)) i best

pub first_largest_is : (demand : List ℤ) (left : List ℕ) → loop (length left) (larger_at demand left) 0 ≡ first_largest demand left
unfolding least_at larger_at
first_largest_is demand left = refl

-- m of them in the order in which they are moved
abbrev pub in_order : List ℤ → ℕ → List ℕ → List ℕ
in_order demand m left = smallest (larger demand) 0 m left

pub in_order_more : (demand : List ℤ) (m : ℕ) (left : List ℕ)
    → in_order demand (suc m) left ≡ get_or left (first_largest demand left) 0 ∷ in_order demand m (erase (first_largest demand left) left)
unfolding smallest
in_order_more demand m left = refl

pub moving_is : (p : Problem) (r : List ℕ) → moving p r ≡ in_order p.demand (length r) r
unfolding moving sort_by
moving_is p r = refl
