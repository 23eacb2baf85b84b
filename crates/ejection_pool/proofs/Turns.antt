-- Every way that a turn of the pool can go, and the rule of proof for an attempt: what must hold at every turn so that a property holds at the
-- end. Assumes nothing.
use Prim.Native.Nat.{ℕ, zero, suc, ◌+◌, ◌≤◌, ◌<◌}
use Rattle.std.specs.Prelude.{◌≡◌, get_or, leb}
use Rattle.std.proofs.Math.Path.{refl, ap}
use Rattle.std.proofs.Common.{◌∙◌, le_refl, arith, le-leb}
use mathlib.Core.List.{List, [], ◌∷◌, ◌++◌, reverse}
use Rattle.std.specs.Prelude.{Option, None, Some}
use Rattle.std.proofs.lemmas.Bool.{lt-leb}
use Rattle.std.proofs.Math.ListN.{set}
use Rattle.ejection_made.specs.laws.Loops.{cond_rule}
use Rattle.ejection_made.specs.models.Problem.{Problem}
use Rattle.ejection_made.specs.plan.Plan.{put_in}
use Rattle.ejection_made.specs.route_cost.declared.Insertion.{Insertion}
use Rattle.ejection_made.specs.local_search.declared.rounds.Counts.{Counts}
use Rattle.ejection_made.specs.local_search.Rounds.{Tried}
use Rattle.ejection_made.specs.insertion.Cheapest.{cheapest}
use Rattle.ejection_made.specs.ejection.declared.Ejection.{Ejection}
use Rattle.ejection_made.specs.ejection.Eject.{eject, make_room, gone}
use Rattle.random_moves.specs.perturbation.Perturb.{perturb}
use Rattle.ejection_pool.specs.Pool.{Allowance, State, Turn, stop, more, failed, counted, after_eject, after_cheapest, turn, turned, at_limit, run_pool}

-- what must hold after a turn: O of what it stops with, or I of the state that it goes on with
abbrev pub Then : (State → Type 0) → (Tried → Type 0) → Turn → Type 0
Then I O (stop t) = O t
Then I O (more s) = I s

module _ (given : Allowance) (p : Problem) where
  -- the pool is empty; the attempt fails, with a step counted or without; the popped stop is inserted; it goes in for others
  pub turn_rule : (Q : Turn → Type 0) (s : State) (pool : List ℕ)
      → (pool ≡ [] → Q (stop (record { plan = Some s.routes; counts = s.counts })))
      → ((n : Counts) → s.counts.steps ≤ n.steps → n.steps ≤ s.counts.steps + 1 → n.draws ≡ s.counts.draws → Q (stop (failed n)))
      → ((c : ℕ) (rest : List ℕ) (x : Insertion) → pool ≡ c ∷ rest → cheapest p s.routes c ≡ Some x
      → Q (more (record {
        routes = put_in x.route x.pos c s.routes;
        pool = rest;
        failures = s.failures;
        counts = counted s.counts s.counts.draws;
      })))
      → ((c : ℕ) (rest failures : List ℕ) (e : Ejection) → pool ≡ c ∷ rest → failures ≡ set s.failures c (get_or s.failures c 0 + 1)
      → eject p s.routes c failures ≡ Some e
      → let d = perturb p given.tape (record { routes = make_room s.routes c e; draws = s.counts.draws }) in
      Q (more (record {
        routes = d.routes;
        pool = reverse (gone s.routes e) ++ rest;
        failures = failures;
        counts = counted s.counts d.draws;
      })))
      → Q (turn given p s pool)
  unfolding turn after_cheapest after_eject
  turn_rule Q s [] done fail insert out = done refl
  turn_rule Q s (c ∷ rest) done fail insert out =
      cond_rule Q (leb given.clock s.counts.steps)
      (λ _. fail s.counts (le_refl s.counts.steps) (omega arith) refl)
      (λ _. placing (cheapest p s.routes c) refl)
    where
      failures : List ℕ
      failures = set s.failures c (get_or s.failures c 0 + 1)

      ejecting : (o : Option Ejection) → eject p s.routes c failures ≡ o → Q (after_eject given.tape p s.routes s.counts c rest failures o)
      ejecting None e = fail (counted s.counts s.counts.draws) (omega arith) (le_refl (s.counts.steps + 1)) refl
      ejecting (Some x) e = out c rest failures x refl refl e

      placing : (o : Option Insertion) → cheapest p s.routes c ≡ o → Q (after_cheapest given.tape p s c rest o)
      placing None e = ejecting (eject p s.routes c failures) refl
      placing (Some x) e = insert c rest x refl e

  -- I left holds of the state where that many steps are left to the limit; O of the attempt's answer
  pub pool_rule : (I : ℕ → State → Type 0) (O : Tried → Type 0)
      → ((s : State) → I zero s → O (at_limit s s.pool))
      → ((left : ℕ) (s : State) → I (suc left) s → Then (I left) O (turn given p s s.pool))
      → (left : ℕ) (s : State) → I left s → O (run_pool given p left s)
  unfolding run_pool turned
  pool_rule I O limit step zero s i = limit s i
  pool_rule I O limit step (suc left) s i = go (turn given p s s.pool) (λ t. pool_rule I O limit step left t) (step left s i)
    where
      go : (t : Turn) → ((u : State) → I left u → O (run_pool given p left u)) → Then (I left) O t → O (turned (λ u. run_pool given p left u) t)
      go (stop t) rest o = o
      go (more u) rest j = rest u j

-- ---- one turn as an equation, for the invariant of the code's loop

module _ (given : Allowance) (p : Problem) (left : ℕ) (s : State) where
  pub pool_more : (t : State) → turn given p s s.pool ≡ more t → run_pool given p (suc left) s ≡ run_pool given p left t
  unfolding run_pool turned
  pool_more t e = rw e

  pub pool_stop : (t : Tried) → turn given p s s.pool ≡ stop t → run_pool given p (suc left) s ≡ t
  unfolding run_pool turned
  pool_stop t e = rw e

-- ---- the ways that the loop ends

module _ (given : Allowance) (p : Problem) (s : State) where
  -- the pool is empty, whatever steps are left
  pub emptied : (left : ℕ) → s.pool ≡ [] → run_pool given p left s ≡ record { plan = Some s.routes; counts = s.counts }
  emptied zero e = (unfold run_pool at_limit in ap (at_limit s) e)
  emptied (suc left) e = pool_stop given p left s (record { plan = Some s.routes; counts = s.counts }) (unfold turn in ap (turn given p s) e)

  module _ (c : ℕ) (rest : List ℕ) (e : s.pool ≡ c ∷ rest) where
    pub at_the_limit : run_pool given p zero s ≡ failed s.counts
    unfolding run_pool at_limit
    at_the_limit = ap (at_limit s) e

    pub clocked : given.clock ≤ s.counts.steps → turn given p s s.pool ≡ stop (failed s.counts)
    unfolding turn
    clocked h = ap (turn given p s) e ∙ rw (le-leb given.clock s.counts.steps h)

    pub goes_on : s.counts.steps < given.clock → turn given p s s.pool ≡ after_cheapest given.tape p s c rest (cheapest p s.routes c)
    unfolding turn
    goes_on h = ap (turn given p s) e ∙ rw (lt-leb given.clock s.counts.steps h)
