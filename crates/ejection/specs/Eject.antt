-- The ejection (route_minimization.rs, `Pool::eject`): the best so far is a route, the places of it whose stops leave, and the position that the
-- popped stop takes in the kept part. Assumes nothing.
use Rattle.std.specs.Prelude.{ℕ, suc, ◌+◌, ◌-◌, List, [], ◌∷◌, ◌++◌, Bool, true, false, cond, not, length, get_or, take, drop, set, eqb, ltb, Float}
use Rattle.std.specs.Prelude.{Option, None, Some}
use Rattle.std.specs.Float.Ieee.{le}
use Rattle.insertion.specs.laws.Edits.{insert_at}
use Rattle.insertion.specs.laws.Loops.{loop}
use Rattle.insertion.specs.models.Problem.{Problem, depot}
use Rattle.insertion.specs.plan.Plan.{Plan, route}
use Rattle.insertion.specs.local_search.Options.{or_else}
use Rattle.insertion.specs.route_cost.Route.{insertion_cost}
use Rattle.insertion.specs.route_load.Feasible.{has_room}
use Rattle.insertion.specs.quick_test.Quick.{Times, times}
use Rattle.insertion.specs.Cheapest.{may_go_in}
use Rattle.ejection.specs.declared.Ejection.{Ejection}

-- ---- who leaves: the stops at i and j of a route, i ≤ j; one stop where they are the same

-- `kept`: the others
unfoldable pub kept : ℕ → ℕ → List ℕ → List ℕ
kept i j r = take i r ++ (take (j - suc i) (drop (suc i) r) ++ drop (suc j) r)

-- `ejected`, "in route order"
unfoldable pub ejected : ℕ → ℕ → List ℕ → List ℕ
ejected i j r = get_or r i 0 ∷ cond (eqb i j) [] (get_or r j 0 ∷ [])

-- the failures of a stop of a route
abbrev pub failures_at : List ℕ → List ℕ → ℕ → ℕ
failures_at failures r i = get_or failures (get_or r i 0) 0

-- `penalty`: the sum of their failures
unfoldable pub failure_sum : List ℕ → List ℕ → ℕ → ℕ → ℕ
failure_sum failures r i j = cond (eqb i j) (failures_at failures r i) (failures_at failures r i + failures_at failures r j)

-- ---- the best so far

-- the key of an `Ejection` is (failed, cost)

-- `penalty > b.key.0`
abbrev pub fails_more : ℕ → Option Ejection → Bool
fails_more n None = false
fails_more n (Some best) = ltb best.failed n

-- "least (failure sum, insertion cost), first found among equals": not `key >= b.key`
abbrev pub outranks : ℕ → Float → Option Ejection → Bool
outranks n x None = true
outranks n x (Some best) = cond (eqb n best.failed) (not (le best.cost x)) (ltb n best.failed)

-- ---- the search

-- a turn of the loop over positions of the kept part
unfoldable pub try_in_kept : Problem → ℕ → ℕ → ℕ → ℕ → ℕ → List ℕ → Times → ℕ → Option Ejection → Option Ejection
try_in_kept p c n k i j left t pos best =
    let x = insertion_cost p.roads (depot p) left pos c in
    cond (outranks n x best)
    (cond (may_go_in p left t pos c) (Some (record { failed = n; cost = x; route = k; first = i; second = j; pos = pos })) best)
    best

-- the loop over positions, unless the departures of the kept part miss a window
unfoldable pub try_kept : Problem → ℕ → ℕ → ℕ → ℕ → ℕ → List ℕ → Option Times → Option Ejection → Option Ejection
try_kept p c n k i j left None best = best
try_kept p c n k i j left (Some t) best = loop (suc (length left)) (try_in_kept p c n k i j left t) best

-- "the load test", and then the positions
unfoldable pub try_left : Problem → ℕ → ℕ → ℕ → ℕ → ℕ → List ℕ → Option Ejection → Option Ejection
try_left p c n k i j left best = cond (has_room p left c) (try_kept p c n k i j left (times p left) best) best

-- `for out in pairs`: failures alone, and then what is kept
unfoldable pub try_out : Problem → ℕ → List ℕ → ℕ → List ℕ → ℕ → ℕ → Option Ejection → Option Ejection
try_out p c failures k r i j best =
    let n = failure_sum failures r i j in
    cond (fails_more n best) best (try_left p c n k i j (kept i j r) best)

-- `size == 1`: each i
unfoldable pub try_one : Problem → ℕ → List ℕ → ℕ → List ℕ → Option Ejection → Option Ejection
try_one p c failures k r best = loop (length r) (λ i. try_out p c failures k r i i) best

-- `size == 2`: each i, then each j after it
unfoldable pub try_two_from : Problem → ℕ → List ℕ → ℕ → List ℕ → ℕ → Option Ejection → Option Ejection
try_two_from p c failures k r i best = loop (length r - suc i) (λ d. try_out p c failures k r i (suc i + d)) best

unfoldable pub try_two : Problem → ℕ → List ℕ → ℕ → List ℕ → Option Ejection → Option Ejection
try_two p c failures k r best = loop (length r) (try_two_from p c failures k r) best

-- over all routes
unfoldable pub eject_one : Problem → Plan → ℕ → List ℕ → Option Ejection
eject_one p routes c failures = loop (length routes) (λ k. try_one p c failures k (route k routes)) None

unfoldable pub eject_two : Problem → Plan → ℕ → List ℕ → Option Ejection
eject_two p routes c failures = loop (length routes) (λ k. try_two p c failures k (route k routes)) None

-- Pool::eject: "one stop, or only if no single one works two"
unfoldable pub eject : Problem → Plan → ℕ → List ℕ → Option Ejection
eject p routes c failures = or_else (eject_one p routes c failures) (eject_two p routes c failures)

-- ---- the ejection made

-- `into`: the route that c goes into, the ejected left out
abbrev pub into : Plan → ℕ → Ejection → List ℕ
into routes c e = insert_at e.pos c (kept e.first e.second (route e.route routes))

-- `routes[ejection.route] = ejection.into`
unfoldable pub make_room : Plan → ℕ → Ejection → Plan
make_room routes c e = set routes e.route (into routes c e)

-- `ejection.ejected`
abbrev pub gone : Plan → Ejection → List ℕ
gone routes e = ejected e.first e.second (route e.route routes)
