-- The rounds that both searches share: attempts to do without a route, the shortest first, begun again as soon as one is accepted. Assumes nothing.
use Rattle.std.specs.Prelude.{ℕ, zero, suc, List, [], ◌∷◌, length}
use Rattle.std.specs.Prelude.{Option, None, Some}
use Rattle.route_order.specs.plan.Plan.{Plan, lengths_of, drop_empty}
use Rattle.route_order.specs.Order.{order}
use Rattle.local_search.specs.declared.rounds.Counts.{Counts}

-- `Counts` says: "Steps are the pops counted; draws are the words taken, one taken again counted again."

-- an attempt's answer: the plan that it leaves, where it is accepted, and the counts after it
pub record Tried : Type 0 where
  pub plan : Option Plan
  pub counts : Counts

-- a search's answer
pub record Result : Type 0 where
  pub plan : Plan
  pub counts : Counts

-- `attempt routes r n` tries to do without route r, after n
abbrev pub Attempt : Type 0
Attempt = Plan → ℕ → Counts → Tried

-- what was accepted, or what comes next
unfoldable pub or_next : (Counts → Tried) → Option Plan → Counts → Tried
or_next next None n = next n
or_next next (Some plan) n = record { plan = Some plan; counts = n }

-- `for r in order`: the first attempt that is accepted
unfoldable pub try_each : Attempt → Plan → List ℕ → Counts → Tried
try_each attempt routes [] n = record { plan = None; counts = n }
try_each attempt routes (r ∷ rs) n =
    let t = attempt routes r n in
    or_next (λ m. try_each attempt routes rs m) t.plan t.counts

-- "take routes by length, stable; try to empty each into the others"
abbrev pub try_all : Attempt → Plan → Counts → Tried
try_all attempt routes n = try_each attempt routes (order (lengths_of routes)) n

-- `continue 'search`, or the end
unfoldable pub or_end : (Plan → Counts → Result) → Plan → Option Plan → Counts → Result
or_end again routes None n = record { plan = routes; counts = n }
or_end again routes (Some plan) n = again (drop_empty plan) n

-- "The round starts again from the shortest route as soon as one is accepted; a round with none ends the call." An accepted attempt leaves a
-- route fewer (`Better`), so there are at most as many rounds as routes.
unfoldable pub rounds : Attempt → ℕ → Plan → Counts → Result
rounds attempt zero routes n = record { plan = routes; counts = n }
rounds attempt (suc left) routes n =
    let t = try_all attempt routes n in
    or_end (λ plan m. rounds attempt left plan m) routes t.plan t.counts

-- `'search: loop`, with the counts at 0
unfoldable pub reduce : Attempt → Plan → Result
reduce attempt plan =
    let routes = drop_empty plan in
    rounds attempt (length routes) routes (record { steps = 0; draws = 0 })
