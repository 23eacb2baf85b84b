-- The routes by length, stable ("take routes by length, stable"), and the pick that comes next after a pick. Assumes nothing.
use Rattle.std.specs.Prelude.{ℕ, zero, suc, Bool, true, cond, List, [], ◌∷◌, length, get_or, eqb, ltb}
use Rattle.std.specs.Prelude.{Option, None, Some}
use Rattle.plan.specs.laws.Loops.{loop}
use Rattle.plan.specs.laws.Keeps.{keep}
use Rattle.plan.specs.laws.Sorts.{range, sort_by}
use Rattle.route_order.specs.declared.Pick.{Pick}

-- some routes by their lengths: `sort_by_key(|&r| routes[r].len())`
abbrev pub by_length : List ℕ → List ℕ → List ℕ
by_length lengths routes = sort_by (λ i j. ltb (get_or lengths i 0) (get_or lengths j 0)) 0 routes

-- all routes by their lengths: `order` of `minimize_routes` and of `eliminate_routes`
abbrev pub order : List ℕ → List ℕ
order lengths = by_length lengths (range 0 (length lengths))

-- ---- one pick after the other

-- the pick of route k of length n
abbrev pub at : ℕ → ℕ → Option Pick
at k n = Some (record { route = k; length = n })

-- route k of length n comes after the last pick: by length, then by index
unfoldable pub is_after : Option Pick → ℕ → ℕ → Bool
is_after None k n = true
is_after (Some p) k n = cond (eqb p.length n) (ltb p.route k) (ltb p.length n)

-- the shorter of the best so far and route k of length n, the first of equals
unfoldable pub shorter : Option Pick → ℕ → ℕ → Option Pick
shorter None k n = at k n
shorter (Some p) k n = cond (ltb n p.length) (at k n) (Some p)

-- the best so far after a look at route k of length n
unfoldable pub considered : Option Pick → Option Pick → ℕ → ℕ → Option Pick
considered last best k n = cond (is_after last k n) (shorter best k n) best

-- the first smallest of the routes that come after the last pick
unfoldable pub next_pick : List ℕ → Option Pick → Option Pick
next_pick lengths last = loop (length lengths) (λ k best. considered last best k (get_or lengths k 0)) None

-- the routes that come after the last pick, in order
unfoldable pub following : List ℕ → Option Pick → List ℕ
following lengths last = by_length lengths (keep (λ k. is_after last k (get_or lengths k 0)) (range 0 (length lengths)))

-- m picks, one after the other, as far as there are any
unfoldable pub picked_then : (Option Pick → List ℕ) → Option Pick → List ℕ
picked_then rest None = []
picked_then rest (Some p) = p.route ∷ rest (Some p)

unfoldable pub repeated : ℕ → List ℕ → Option Pick → List ℕ
repeated zero lengths last = []
repeated (suc m) lengths last = picked_then (λ p. repeated m lengths p) (next_pick lengths last)
