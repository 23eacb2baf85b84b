-- Laws of the loop that empties the pool: the attempt from its start is the attempt from where it has come to. Assumes nothing.
use Prim.Native.Nat.{ℕ, suc, ◌-◌, ◌≤◌, ◌<◌}
use native.Mathlib.Omega.{arith}
use mathlib.Core.Path.{◌≡◌, sym, ap, subst, ◌∙◌}
use mathlib.Core.List.{List, ◌∷◌, reverse}
use mathlib.Core.Bool.{Bool, true, false}
use borrow.Author.Tests.{eqb-true, eqb-false}
use lib.Dec.{eqb}
use Rattle.std.proofs.Common.{Result, Ok, Err}
use Rattle.std.proofs.lemmas.List.{nil_from_length}
use lib.ListN.{length, drop, get_or}
use Rattle.pool_turn.specs.models.Problem.{Problem}
use Rattle.pool_turn.specs.plan.Given.{plan_of, Keeps, keeps_on}
use Rattle.pool_turn.specs.plan.declared.routes.Routes.{Routes}
use Rattle.pool_turn.specs.local_search.declared.rounds.Counts.{Counts}
use Rattle.pool_turn.specs.insertion.Cheapest.{cheapest}
use Rattle.pool_turn.specs.ejection_made.Made.{Stack, pooled, stack_pop}
use Rattle.pool_turn.specs.ejection_pool.Pool.{Allowance, State, more, failed, turn, after_cheapest, run_pool}
use Rattle.pool_turn.specs.EjectionPoolTurns.{pool_more, pool_stop, emptied, at_the_limit, clocked, goes_on}
use Rattle.pool_turn.specs.ejection_pool.Pooled.{Pooled}
use Rattle.pool_turn.specs.EjectionPoolPooledLaws.{pooled_more}
use Rattle.pool_turn.specs.ejection_pool.Running.{Running, state}
use Rattle.pool_turn.specs.forced_insertion.Turned.{as_turn}
use Rattle.pool_turns.specs.Ends.{said}

-- ---- whether a stop waits

pub waits : {b : Bool} {n : ℕ} → b ≡ eqb n 0 → b ≡ false → 0 < n
waits {n = n} e f =
    let none : n ≡ 0 → ⊥ = eqb-false n 0 (sym e ∙ f) in
    omega (arith, none)

pub none_waits : {b : Bool} {n : ℕ} → b ≡ eqb n 0 → b ≡ true → n ≡ 0
none_waits {n = n} e f = eqb-true n 0 (sym e ∙ f)

-- ---- the loop

pub record Looping (given : Allowance) (p : Problem) (first : State) (routes₀ : Routes) (left : ℕ)
    (routes : Routes) (pool : Stack) (work failures : List ℕ) (counts : Counts) : Type 0 where
  pub running : Running p left (plan_of routes) (length routes.stops.now) pool work failures counts
  pub same : run_pool given p given.limit first ≡ run_pool given p left (state (plan_of routes) pool failures counts)
  pub kept : Keeps routes₀ routes

module _ {given : Allowance} {p : Problem} {first : State} {routes₀ : Routes} {left : ℕ}
    {routes : Routes} {pool : Stack} {work failures : List ℕ} {counts : Counts}
    (g : Looping given p first routes₀ left routes pool work failures counts) where
  pub looping_done : length pool.items ≡ 0 → said (Ok counts) (plan_of routes) ≡ run_pool given p given.limit first
  looping_done h = sym (g.same ∙ emptied given p (state (plan_of routes) pool failures counts) left (ap reverse (nil_from_length pool.items h)))

  module _ (h : 0 < length pool.items) where
    top : pooled pool ≡ get_or (pooled pool) 0 0 ∷ drop 1 (pooled pool)
    top = front (pooled pool) (stack_pop pool h)
      where
        front : (l : List ℕ) {x : ℕ} {r : List ℕ} → l ≡ x ∷ r → l ≡ get_or l 0 0 ∷ drop 1 l
        front l e = rw e

    pub looping_spent : left ≡ 0 → said (Err counts) (plan_of routes) ≡ run_pool given p given.limit first
    looping_spent z =
        sym (g.same ∙ ap (λ (m : ℕ). run_pool given p m (state (plan_of routes) pool failures counts)) z
        ∙ at_the_limit given p (state (plan_of routes) pool failures counts) (get_or (pooled pool) 0 0) (drop 1 (pooled pool)) top)

    module _ (k : left ≡ 0 → ⊥) where
      pred : suc (left - 1) ≡ left
      pred = omega arith

      before : run_pool given p given.limit first ≡ run_pool given p (suc (left - 1)) (state (plan_of routes) pool failures counts)
      before = g.same ∙ ap (λ (m : ℕ). run_pool given p m (state (plan_of routes) pool failures counts)) (sym pred)

      pub looping_clocked : given.clock ≤ counts.steps → said (Err counts) (plan_of routes) ≡ run_pool given p given.limit first
      looping_clocked t =
          sym (before ∙ pool_stop given p (left - 1) (state (plan_of routes) pool failures counts) (failed counts)
          (clocked given p (state (plan_of routes) pool failures counts) (get_or (pooled pool) 0 0) (drop 1 (pooled pool)) top t))

      -- a turn that was made: x is how it ended
      module _ (t : counts.steps < given.clock) (x : Result Counts Counts) (routes' : Routes) (pool' : Stack) (failures' : List ℕ)
          (e : as_turn x (plan_of routes') pool' failures' ≡ after_cheapest given.tape p (state (plan_of routes) pool failures counts) (get_or (pooled pool) 0 0) (drop 1 (pooled pool))
          (cheapest p (plan_of routes) (get_or (pooled pool) 0 0))) where
        made : turn given p (state (plan_of routes) pool failures counts) (pooled pool) ≡ as_turn x (plan_of routes') pool' failures'
        made = goes_on given p (state (plan_of routes) pool failures counts) (get_or (pooled pool) 0 0) (drop 1 (pooled pool)) top t ∙ sym e

        pub looping_stuck : {after : Counts} → x ≡ Err after → said (Err after) (plan_of routes') ≡ run_pool given p given.limit first
        looping_stuck {after} ex =
            sym (before ∙ pool_stop given p (left - 1) (state (plan_of routes) pool failures counts) (failed after)
            (made ∙ ap (λ (y : Result Counts Counts). as_turn y (plan_of routes') pool' failures') ex))

        pub looping_more : {after : Counts} {work' : List ℕ} → x ≡ Ok after → Keeps routes routes'
            → length work' ≡ length work → Looping given p first routes₀ (left - 1) routes' pool' work' failures' after
        looping_more {after} ex er ew =
            let went : turn given p (state (plan_of routes) pool failures counts) (pooled pool) ≡ more (state (plan_of routes') pool' failures' after) =
            made ∙ ap (λ (y : Result Counts Counts). as_turn y (plan_of routes') pool' failures') ex in
            let kept : Pooled p (length routes.stops.now) (suc (left - 1)) (state (plan_of routes) pool failures counts) =
            subst (λ (i : ℕ). Pooled p (length routes.stops.now) i (state (plan_of routes) pool failures counts)) (sym pred) g.running.pooled in
            record {
              running = record {
                few = omega (arith, er.room, g.running.few);
                pooled = subst (λ (i : ℕ). Pooled p i (left - 1) (state (plan_of routes') pool' failures' after)) (sym er.room)
                    (pooled_more given p (length routes.stops.now) (left - 1) (state (plan_of routes) pool failures counts) (state (plan_of routes') pool' failures' after) kept went);
                work_room = omega (arith, er.room, g.running.work_room);
              };
              same = before ∙ pool_more given p (left - 1) (state (plan_of routes) pool failures counts) (state (plan_of routes') pool' failures' after) went;
              kept = keeps_on g.kept er;
            }
