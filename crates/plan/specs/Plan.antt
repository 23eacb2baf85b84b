-- A plan, in place of `Vec<Vec<usize>>`: its routes, the two slices that stand for them, and the edits that the searches make. Assumes nothing.
use Rattle.std.specs.Prelude.{◌≡◌, ℕ, ◌+◌, ◌-◌, ◌<◌, ◌≤◌, Bool, true, false, not, List, [], ◌∷◌, ◌++◌, map, length, take, drop, replicate, ◌==◌, slice_index, slice_index_or, slice_set}
use Rattle.cell_exchange.specs.laws.Edits.{insert_at, erase}
use Rattle.cell_exchange.specs.laws.Keeps.{keep}
use Rattle.cell_exchange.specs.laws.Counts.{count}

-- the routes in plan order, each its stops in order
abbrev pub Plan : Type 0
Plan = List (List ℕ)

-- `routes[k]`, with no stops where there is no such route
abbrev pub route : ℕ → Plan → List ℕ
route k plan = slice_index_or plan k []

-- ---- the two slices

-- "A plan is two lent slices: lengths (one per route, 0 is an empty route) and stops, route after route."
unfoldable pub split : List ℕ → List ℕ → Plan
split [] stops = []
split (n ∷ ns) stops = take n stops ∷ split ns (drop n stops)

-- the stops of a plan, route after route
unfoldable pub flat : Plan → List ℕ
flat [] = []
flat (r ∷ rs) = r ++ flat rs

-- the lengths of its routes
abbrev pub lengths_of : Plan → List ℕ
lengths_of plan = map length plan

-- how many stops there are by their lengths
unfoldable pub total : List ℕ → ℕ
total [] = 0
total (n ∷ ns) = n + total ns

-- where route k begins among the stops
abbrev pub offset : List ℕ → ℕ → ℕ
offset lengths k = total (take k lengths)

-- lengths in a slice of n: "later ones become 0"
unfoldable pub padded : ℕ → List ℕ → List ℕ
padded n lengths = lengths ++ replicate (n - length lengths) 0

pub record Slices : Type 0 where
  pub lengths : List ℕ
  pub stops : List ℕ

-- "A call returns r; the first r lengths are the answer, later ones become 0.": both slices after a call with n lengths whose answer is the plan
abbrev pub written : ℕ → Plan → Slices
written n plan = record { lengths = padded n (lengths_of plan); stops = flat plan }

-- work cells with both slices kept in the first of them
abbrev pub saved : List ℕ → List ℕ → List ℕ → List ℕ
saved lengths stops work = lengths ++ (stops ++ drop (length lengths + length stops) work)

-- Two slices hold a plan of n stops: they split into it, and the lengths sum to n.
pub record Holds (plan : Plan) (n : ℕ) (lengths stops : List ℕ) : Type 0 where
  pub routes : split lengths stops ≡ plan
  pub sum : total lengths ≡ n

-- Two lent slices with a plan in them: the stops in use are there, and their number fits a length.
pub record Lent (lengths stops : List ℕ) : Type 0 where
  pub inside : total lengths ≤ length stops
  pub few : length stops < 65536

-- the plan has a position for a stop: pos of route k, its end too
pub record HasPosition (plan : Plan) (k pos : ℕ) : Type 0 where
  pub there : k < length plan
  pub within : pos ≤ length (route k plan)

-- the plan has a stop at pos of route k
pub record HasStop (plan : Plan) (k pos : ℕ) : Type 0 where
  pub there : k < length plan
  pub within : pos < length (route k plan)

-- ---- edits (route_minimization.rs). Route k is taken out by `erase k`, and r put in its place by `set plan k r`.

-- a stop put into a route: `routes[k].insert(pos, c)` of `empty_into`, "On insertion every later stop of the plan moves one place right"
unfoldable pub put_in : ℕ → ℕ → ℕ → Plan → Plan
put_in k pos c plan = slice_set plan k (insert_at pos c (route k plan))

-- a stop taken out of a route, as `eject` leaves it out
unfoldable pub take_out : ℕ → ℕ → Plan → Plan
take_out k pos plan = slice_set plan k (erase pos (route k plan))

-- the stop at i of route a and the stop at j of route b exchanged: `std::mem::swap(&mut ra[i], &mut rb[j])` of `perturb`
unfoldable pub exchange_stops : ℕ → ℕ → ℕ → ℕ → Plan → Plan
exchange_stops a i b j plan =
    slice_set (slice_set plan a (slice_set (route a plan) i (slice_index (route b plan) j))) b (slice_set (route b plan) j (slice_index (route a plan) i))

-- the tail of route a from i and the tail of route b from j exchanged (2-opt*): `routes[a][..i]` goes on with `routes[b][j..]`, and
-- `routes[b][..j]` with `routes[a][i..]`, as in `perturb`
unfoldable pub exchange_tails : ℕ → ℕ → ℕ → ℕ → Plan → Plan
exchange_tails a i b j plan =
    slice_set (slice_set plan a (take i (route a plan) ++ drop j (route b plan))) b (take j (route b plan) ++ drop i (route a plan))

-- `!r.is_empty()`
unfoldable pub non_empty : List ℕ → Bool
non_empty [] = false
non_empty (c ∷ cs) = true

-- "drop empty routes": `routes.retain(|r| !r.is_empty())`
abbrev pub drop_empty : Plan → Plan
drop_empty plan = keep non_empty plan

-- the same on the lengths
abbrev pub drop_zero : List ℕ → List ℕ
drop_zero lengths = keep (λ n. not (n == 0)) lengths

-- ---- what a plan has

-- how often a place is a stop of the plan
abbrev pub occurs : ℕ → Plan → ℕ
occurs c plan = count c (flat plan)
