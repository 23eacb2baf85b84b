-- The parts of a move that have a function of their own. Assumes nothing.
use Rattle.std.specs.Prelude.{ℕ, suc, ◌+◌, ◌<◌, ◌^◌, ◌≡◌, List, ◌++◌, Bool, ◌&&◌, length, take, drop}
use Rattle.ejection_search.specs.models.Problem.{Problem}
use Rattle.ejection_search.specs.plan.Plan.{Plan, route, non_empty}
use Rattle.ejection_search.specs.plan.Given.{plan_of}
use Rattle.ejection_search.specs.plan.declared.routes.Routes.{Routes}
use Rattle.ejection_search.specs.route_load.Feasible.{feasible}
use Rattle.ejection_search.specs.local_search.Planned.{Planned}
use Rattle.perturbation.specs.Perturb.{Drawn, draw, try_exchange, try_tails}
use Rattle.perturbation.specs.declared.draws.Draws.{Draws}

-- the front of route a up to i, and behind it the tail of route b from j
unfoldable pub joined : ℕ → ℕ → ℕ → ℕ → Plan → List ℕ
joined a i b j routes = take i (route a routes) ++ drop j (route b routes)

-- it has stops and is feasible
unfoldable pub joined_stands : Problem → ℕ → ℕ → ℕ → ℕ → Plan → Bool
joined_stands p a i b j routes = non_empty (joined a i b j routes) && feasible p (joined a i b j routes)

-- the two kinds of move, at the fourth and fifth draw: d is the number of the first
unfoldable pub drawn_exchange : Problem → List ℕ → ℕ → ℕ → ℕ → Plan → Plan
drawn_exchange p tape d a b routes =
    try_exchange p a (draw tape (d + 3) (length (route a routes))) b (draw tape (d + 4) (length (route b routes))) routes

unfoldable pub drawn_tails : Problem → List ℕ → ℕ → ℕ → ℕ → Plan → Plan
drawn_tails p tape d a b routes =
    try_tails p a (draw tape (d + 3) (suc (length (route a routes)))) b (draw tape (d + 4) (suc (length (route b routes)))) routes

-- ---- what a move asks for

-- the plan and the draws that it begins with
abbrev pub drawn : Routes → Draws → Drawn
drawn routes draws = record { routes = plan_of routes; draws = draws.next }

-- a plan over n places, and draws so few that those of one move can be counted
pub record Movable (n : ℕ) (routes : Routes) (draws : Draws) : Type 0 where
  pub planned : Planned n (plan_of routes)
  pub countable : draws.next + 5 < 2 ^ 64

-- two different routes of the plan
pub record Pair (routes : Plan) (a b : ℕ) : Type 0 where
  pub first_in : a < length routes
  pub second_in : b < length routes
  pub apart : a ≡ b → ⊥
