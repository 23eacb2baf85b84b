-- The plan that is left where the pool is emptied, and what the test of its cost makes of it. Assumes nothing.
use Prim.Native.Nat.{ℕ, zero, suc, ◌≤◌}
use mathlib.Core.Path.{◌≡◌, refl, sym, ap, ◌∙◌}
use mathlib.Core.Bool.{Bool, true, false}
use mathlib.Core.List.{List, [], ◌∷◌}
use Rattle.std.proofs.Common.{Option, Some, Result, Ok, Err}
use native.Mathlib.Omega.{arith}
use lib.Ieee.{Float, lt}
use Rattle.pool_cost.specs.floats.Binary64.{◌⊖◌, ◌⊗◌, 1e-12, abs}
use Rattle.pool_cost.specs.laws.All.{All}
use Rattle.pool_cost.specs.models.Problem.{Problem, of_roads, Stops}
use Rattle.pool_cost.specs.plan.Plan.{Plan}
use Rattle.pool_cost.specs.local_search.declared.rounds.Counts.{Counts}
use Rattle.pool_cost.specs.local_search.Options.{Each, each_found, bind, then_some}
use Rattle.pool_cost.specs.local_search.Planned.{Planned, planned_stops}
use Rattle.pool_cost.specs.route_cost.Route.{cost}
use Rattle.pool_cost.specs.local_search.Rounds.{Tried}
use Rattle.pool_cost.specs.ejection_made.Made.{Stack}
use Rattle.pool_cost.specs.ejection_pool.Pool.{Allowance, State, Turn, stop, more, turn, at_limit, run_pool}
use Rattle.pool_cost.specs.EjectionPoolTurns.{Then, turn_rule, pool_rule}
use Rattle.pool_cost.specs.ejection_pool.Pooled.{Pooled}
use Rattle.pool_cost.specs.EjectionPoolPooledLaws.{pooled_planned, pooled_more}
use Rattle.pool_cost.specs.ejection_pool.Running.{Running, state}
use Rattle.pool_emptying.specs.pool_turns.Ends.{said}
use Rattle.pool_cost.proofs.CostLaws.{cheaper_tested}
use Rattle.pool_attempt.specs.Judged.{tried, judged}

-- ---- what is left of the pool

-- where the pool is emptied, the plan is one over the places
module _ (given : Allowance) (p : Problem) (n : ℕ) (few : n ≤ 256) where
  pub pool_planned : (left : ℕ) (s : State) → Pooled p n left s → Each (Planned p.roads.size) (run_pool given p left s).plan
  unfolding at_limit
  pool_planned left s h = pool_rule given p (λ left s. Pooled p n left s) O (λ s i. limit s i s.pool) step left s h
    where
      O : Tried → Type 0
      O t = Each (Planned p.roads.size) t.plan

      limit : (s : State) → Pooled p n zero s → (pool : List ℕ) → O (at_limit s pool)
      limit s i [] = pooled_planned p n zero s few i
      limit s i (c ∷ rest) = tt

      go : (left : ℕ) (s : State) → Pooled p n (suc left) s → (t : Turn) → turn given p s s.pool ≡ t → Then (λ _. Unit) O t → Then (λ u. Pooled p n left u) O t
      go left s i (stop t) e o = o
      go left s i (more u) e o = pooled_more given p n left s u i e

      step : (left : ℕ) (s : State) → Pooled p n (suc left) s → Then (λ u. Pooled p n left u) O (turn given p s s.pool)
      step left s i =
          go left s i (turn given p s s.pool) refl
          (turn_rule given p (Then (λ _. Unit) O) s s.pool (λ _. pooled_planned p n (suc left) s few i) (λ _ _ _ _. tt) (λ _ _ _ _ _. tt) (λ _ _ _ _ _ _ _. tt))

-- the plan that is left where the pool is emptied is one of stops
module _ (given : Allowance) {p : Problem} {limit : ℕ} {before : Plan} {room : ℕ} {pool : Stack} {work failures : List ℕ} {counted : Counts}
    (g : Running p limit before room pool work failures counted) where
  pub done_stops : {plan : Plan} {counts : Counts} {x : Result Counts Counts} → said x plan ≡ run_pool given p limit (state before pool failures counted) → x ≡ Ok counts
      → All (Stops p.roads.size) plan
  done_stops {plan} e f =
      let t = run_pool given p limit (state before pool failures counted) in
      let d : t.plan ≡ Some plan = ap (λ (y : Tried). y.plan) (sym e ∙ ap (λ (y : Result Counts Counts). said y plan) f) in
      let few : room ≤ 256 = omega (arith, g.few) in
      planned_stops p.roads.size plan (each_found (Planned p.roads.size) t.plan d (pool_planned given p room few limit (state before pool failures counted) g.pooled))

-- the test of the cost
module _ (p : Problem) (before : Float) (t : Tried) (plan : Plan) (counts : Counts) (x : Result Counts Counts) (e : said x plan ≡ t) where
  pub judged_failed : x ≡ Err counts → tried (Err counts) plan ≡ judged p before t
  unfolding bind
  judged_failed f = ap (λ (y : Result Counts Counts). judged p before (said y plan)) (sym f) ∙ ap (judged p before) e

  module _ (f : x ≡ Ok counts) (v : Bool) (c : v ≡ lt (cost (of_roads p.roads p.vehicle) plan) (before ⊖ 1e-12 ⊗ abs before)) where
    emptied : judged p before (said (Ok counts) plan) ≡ judged p before t
    emptied = ap (λ (y : Result Counts Counts). judged p before (said y plan)) (sym f) ∙ ap (judged p before) e

    answer : record { plan = then_some v plan; counts = counts } ≡ judged p before t
    unfolding bind
    answer = ap (λ (o : Option Plan). record { plan = o; counts = counts }) (cheaper_tested p before plan v c) ∙ emptied

    pub judged_cheaper : v ≡ true → tried (Ok counts) plan ≡ judged p before t
    unfolding then_some
    judged_cheaper g = ap (λ (b : Bool). record { plan = then_some b plan; counts = counts }) (sym g) ∙ answer

    pub judged_dearer : v ≡ false → tried (Err counts) plan ≡ judged p before t
    unfolding then_some
    judged_dearer g = ap (λ (b : Bool). record { plan = then_some b plan; counts = counts }) (sym g) ∙ answer
