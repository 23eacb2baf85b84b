-- The random moves after an ejection (route_minimization.rs, `Pool::perturb`), with document 01's stand-in for `Rng`. Assumes nothing.
use Rattle.std.specs.Prelude.{ℕ, suc, ◌+◌, ◌-◌, ◌%◌, List, Bool, cond, ◌&&◌, length, get_or, leb, ltb, eqb}
use Rattle.ejection_search.specs.laws.Loops.{loop}
use Rattle.ejection_search.specs.models.Problem.{Problem}
use Rattle.ejection_search.specs.plan.Plan.{Plan, route, exchange_stops, exchange_tails, non_empty}
use Rattle.ejection_search.specs.route_load.Feasible.{feasible}

-- ---- draws

-- "a draw takes the next u64 of the tape, each call from its first word, after the last the first again": draw number d of a call
unfoldable pub word : List ℕ → ℕ → ℕ
word tape d = get_or tape (d % length tape) 0

-- "a range of m values gives word mod m"
unfoldable pub draw : List ℕ → ℕ → ℕ → ℕ
draw tape d m = word tape d % m

-- "`random_bool(0.5)` is true for an even word"
unfoldable pub draw_bool : List ℕ → ℕ → Bool
draw_bool tape d = eqb (word tape d % 2) 0

-- ---- one move

-- "a move stands only if both changed routes, the shortened one too, fit and pass the check"
abbrev pub stands : Problem → ℕ → ℕ → Plan → Bool
stands p a b routes = feasible p (route a routes) && feasible p (route b routes)

-- neither of two routes is empty
abbrev pub both_non_empty : ℕ → ℕ → Plan → Bool
both_non_empty a b routes = non_empty (route a routes) && non_empty (route b routes)

-- two stops exchanged
unfoldable pub try_exchange : Problem → ℕ → ℕ → ℕ → ℕ → Plan → Plan
try_exchange p a i b j routes =
    let changed = exchange_stops a i b j routes in
    cond (stands p a b changed) changed routes

-- two tails exchanged: "a tail swap that empties a route is dropped after its five draws"
unfoldable pub try_tails : Problem → ℕ → ℕ → ℕ → ℕ → Plan → Plan
try_tails p a i b j routes =
    let changed = exchange_tails a i b j routes in
    cond (both_non_empty a b changed) (cond (stands p a b changed) changed routes) routes

-- the third draw of a move says which kind it is, the fourth and fifth where; d is the number of its first draw
unfoldable pub try_move : Problem → List ℕ → ℕ → ℕ → ℕ → Plan → Plan
try_move p tape d a b routes =
    let m = length (route a routes) in
    let n = length (route b routes) in
    cond (draw_bool tape (d + 2))
    (try_exchange p a (draw tape (d + 3) m) b (draw tape (d + 4) n) routes)
    (try_tails p a (draw tape (d + 3) (suc m)) b (draw tape (d + 4) (suc n)) routes)

-- the routes, and the draws of the call so far
pub record Drawn : Type 0 where
  pub routes : Plan
  pub draws : ℕ

-- the move between routes a and b: where one is empty, two draws and no more
unfoldable pub move_between : Problem → List ℕ → ℕ → ℕ → Drawn → Drawn
move_between p tape a b s =
    cond (both_non_empty a b s.routes)
    (record { routes = try_move p tape s.draws a b s.routes; draws = s.draws + 5 })
    (record { routes = s.routes; draws = s.draws + 2 })

-- `if b >= a { b += 1; }`: the second of two different routes, of the others
unfoldable pub other_than : ℕ → ℕ → ℕ
other_than a b = cond (leb a b) (suc b) b

-- a turn of the loop of `perturb`: "at most five draws each"
unfoldable pub move : Problem → List ℕ → Drawn → Drawn
move p tape s =
    let n = length s.routes in
    let a = draw tape s.draws n in
    move_between p tape a (other_than a (draw tape (s.draws + 1) (n - 1))) s

-- Pool::perturb: "100 moves"; over fewer than two routes none
unfoldable pub perturb : Problem → List ℕ → Drawn → Drawn
perturb p tape s = cond (ltb (length s.routes) 2) s (loop 100 (λ i. move p tape) s)
