-- The ejection pool: the attempt to empty a route into the others (route_minimization.rs, `Pool::empty_into`). Assumes nothing.
use Rattle.std.specs.Prelude.{ℕ, zero, suc, ◌+◌, List, [], ◌∷◌, ◌++◌, reverse, cond, get_or, set, replicate, leb}
use Rattle.std.specs.Prelude.{Option, None, Some}
use Rattle.ejection_made.specs.models.Problem.{Problem}
use Rattle.ejection_made.specs.plan.Plan.{Plan, put_in}
use Rattle.ejection_made.specs.route_cost.declared.Insertion.{Insertion}
use Rattle.ejection_made.specs.local_search.declared.rounds.Counts.{Counts}
use Rattle.ejection_made.specs.local_search.Rounds.{Tried}
use Rattle.ejection_made.specs.insertion.Cheapest.{cheapest}
use Rattle.ejection_made.specs.ejection.declared.Ejection.{Ejection}
use Rattle.ejection_made.specs.ejection.Eject.{eject, make_room, gone}
use Rattle.random_moves.specs.perturbation.Perturb.{perturb}

-- what a call may use: the step limit M, the clock's K, the draw tape
pub record Allowance : Type 0 where
  pub limit : ℕ
  pub clock : ℕ
  pub tape : List ℕ

-- The pool's top is its first element. The tape needs no place of its own: the next word is that of the number of draws.
pub record State : Type 0 where
  pub routes : Plan
  pub pool : List ℕ
  pub failures : List ℕ
  pub counts : Counts

-- a turn ends the attempt, or the attempt goes on
pub data Turn : Type 0 where
  stop : Tried → Turn
  more : State → Turn

abbrev pub failed : Counts → Tried
failed n = record { plan = None; counts = n }

-- "otherwise one step counts"
abbrev pub counted : Counts → ℕ → Counts
counted n draws = record { steps = n.steps + 1; draws = draws }

-- "None: the attempt fails. The ejected go onto the pool in route order. Then `perturb`"
unfoldable pub after_eject : List ℕ → Problem → Plan → Counts → ℕ → List ℕ → List ℕ → Option Ejection → Turn
after_eject tape p routes n c rest failures None = stop (failed (counted n n.draws))
after_eject tape p routes n c rest failures (Some e) =
    let d = perturb p tape (record { routes = make_room routes c e; draws = n.draws }) in
    more (record { routes = d.routes; pool = reverse (gone routes e) ++ rest; failures = failures; counts = counted n d.draws })

-- the popped stop c inserted; "Otherwise failures of the popped stop rise by 1 and one stop, or .. two, leave a route"
unfoldable pub after_cheapest : List ℕ → Problem → State → ℕ → List ℕ → Option Insertion → Turn
after_cheapest tape p s c rest (Some best) =
    more (record {
      routes = put_in best.route best.pos c s.routes;
      pool = rest;
      failures = s.failures;
      counts = counted s.counts s.counts.draws;
    })
after_cheapest tape p s c rest None =
    let failures = set s.failures c (get_or s.failures c 0 + 1) in
    after_eject tape p s.routes s.counts c rest failures (eject p s.routes c failures)

-- A turn of the loop of `empty_into` below the step limit. "The clock answers no to the first K askings of a call (K: u64), yes from then on.":
-- each asking that is answered by no counts a step, and no step counts without one, so the clock says stop exactly if K steps are counted.
unfoldable pub turn : Allowance → Problem → State → List ℕ → Turn
turn given p s [] = stop (record { plan = Some s.routes; counts = s.counts })
turn given p s (c ∷ rest) =
    cond (leb given.clock s.counts.steps) (stop (failed s.counts)) (after_cheapest given.tape p s c rest (cheapest p s.routes c))

unfoldable pub turned : (State → Tried) → Turn → Tried
turned on (stop t) = t
turned on (more s) = on s

-- "if M steps are done .. the attempt fails (the clock is not asked after M)"; a pool that is empty by then has succeeded
unfoldable pub at_limit : State → List ℕ → Tried
at_limit s [] = record { plan = Some s.routes; counts = s.counts }
at_limit s (c ∷ rest) = failed s.counts

-- the loop of `empty_into` with `left` steps to the limit
unfoldable pub run_pool : Allowance → Problem → ℕ → State → Tried
run_pool given p zero s = at_limit s s.pool
run_pool given p (suc left) s = turned (λ t. run_pool given p left t) (turn given p s s.pool)

-- Pool::empty_into: "failures are 1 for every place. The pool is the route, popped at its end."
unfoldable pub empty_into : Allowance → Problem → Plan → List ℕ → Counts → Tried
empty_into given p routes removed n =
    run_pool given p given.limit (record { routes = routes; pool = reverse removed; failures = replicate p.roads.size 1; counts = n })
