-- The cost falls: an accepted attempt leaves a plan that costs less, so the search leaves the plan's non-empty routes as they were or a plan that
-- costs less than they do. Nothing is asked of the problem: the test of acceptance says so for every f64. Assumes nothing.
use Rattle.std.specs.Prelude.{ℕ, ◌<◌, ◌≡◌, true, List, ◌⊎◌}
use Rattle.std.proofs.Math.Path.{refl}
use Rattle.std.proofs.Common.{ap, subst, ◌∙◌, inr, ⊎_elim, arith}
use Rattle.std.proofs.Math.Logic.{inl}
use Rattle.std.specs.Prelude.{Option, None, Some}
use Rattle.std.proofs.Math.ListN.{length}
use Rattle.std.specs.Float.Ieee.{lt}
use Rattle.pool_cost.specs.floats.Order.{lt_lt_true}
use Rattle.pool_cost.specs.floats.Gain.{accepted}
use Rattle.pool_cost.specs.laws.All.{All}
use Rattle.pool_cost.specs.laws.Edits.{erase}
use Rattle.pool_cost.specs.laws.Keeps.{keep_passes, keep_all, keep_twice}
use Rattle.pool_cost.specs.laws.Loops.{cond_rule}
use Rattle.pool_cost.specs.models.Problem.{Problem}
use Rattle.pool_cost.specs.evaluation.Check.{has_soft_windows}
use Rattle.pool_cost.specs.plan.Plan.{Plan, route, non_empty, drop_empty}
use Rattle.pool_cost.specs.local_search.Options.{Each, each_found, each_then_some, each_bind, each_both}
use Rattle.pool_cost.specs.route_cost.Route.{cost}
use Rattle.pool_cost.specs.route_load.RouteLaws.{cost_held}
use Rattle.pool_cost.specs.local_search.declared.rounds.Counts.{Counts}
use Rattle.pool_cost.specs.local_search.Rounds.{Result, try_all, rounds, reduce}
use Rattle.pool_cost.specs.local_search.RoundRules.{rounds_rule}
use Rattle.pool_cost.specs.local_search.Reduced.{Better, round_has}
use Rattle.pool_cost.specs.ejection_pool.Pool.{Allowance, empty_into}
use Rattle.pool_cost.specs.Attempt.{if_cheaper, attempt}
use Rattle.minimization.specs.Minimize.{minimize_routes}
use Rattle.minimization.specs.Attempted.{attempt_better}

abbrev Full : List ℕ → Type 0
Full r = non_empty r ≡ true

module _ (given : Allowance) (p : Problem) where
  -- ---- an accepted attempt

  abbrev Less : Plan → Plan → Type 0
  Less routes x = lt (cost p x) (cost p routes) ≡ true

  cheaper_less : (routes x : Plan) → Each (Less routes) (if_cheaper p (cost p routes) x)
  unfolding if_cheaper
  cheaper_less routes x = each_then_some (Less routes) _ x (λ e. accepted (cost p x) (cost p routes) (cost_held p routes) e)

  attempt_less : (routes : Plan) (r : ℕ) (n : Counts) → r < length routes → All Full routes
      → Each (λ x. Better Full routes x × Less routes x) (attempt given p routes r n).plan
  unfolding attempt
  attempt_less routes r n r-in full =
      each_both (Better Full routes) (Less routes) (attempt given p routes r n).plan
      (attempt_better p Full (λ q _ e. e) routes given r n r-in full)
      (each_bind (λ x. Unit) (Less routes) _ (if_cheaper p (cost p routes)) (λ x _. cheaper_less routes x) (anything (empty_into given p (erase r routes) (route r routes) n).plan))
    where
      anything : (o : Option Plan) → Each (λ x. Unit) o
      anything None = tt
      anything (Some x) = tt

  -- ---- the rounds

  -- no route empty, and the same plan as at first or one that costs less
  record Down (first x : Plan) : Type 0 where
    full : All Full x
    less : (x ≡ first) ⊎ Less first x

  rounds_down : (first : Plan) (left : ℕ) (routes : Plan) (n : Counts) → Down first routes → Down first (rounds (attempt given p) left routes n).plan
  rounds_down first =
      rounds_rule (attempt given p) (λ left routes n. Down first routes) (λ x. Down first x.plan)
      (λ left routes n d. d)
      (λ left routes n d. d)
      (λ left routes n x d e.
      let y = each_found (λ z. Better Full routes z × Less routes z) (try_all (attempt given p) routes n).plan e
      (round_has (attempt given p) (λ z. Better Full routes z × Less routes z) routes (λ r n r-in. attempt_less routes r n r-in d.full) n) in
      rw (keep_all non_empty y.0.kinds) (record {
        full = y.0.kinds;
        less = inr (⊎_elim (λ same. subst (λ (q : Plan). Less q x) same y.1) (λ down. lt_lt_true (cost p x) (cost p routes) (cost p first) y.1 down) d.less);
      }))

  -- ---- the search

  falls : (plan x : Plan) → Down (drop_empty plan) x → length (drop_empty x) < length (drop_empty plan) → lt (cost p (drop_empty x)) (cost p (drop_empty plan)) ≡ true
  falls plan x d h =
      ⊎_elim
      (λ same. absurd (same_length (ap (λ (q : Plan). length (drop_empty q)) same ∙ ap length (keep_twice non_empty plan)) h))
      (λ down. rw (keep_all non_empty d.full) down) d.less
    where
      same_length : {a b : ℕ} → a ≡ b → a < b → ⊥
      same_length e l = omega arith

  -- "cost lower": where the search leaves fewer non-empty routes, they cost less
  pub minimize_falls : (plan : Plan) → length (drop_empty (minimize_routes given p plan).plan) < length (drop_empty plan)
      → lt (cost p (drop_empty (minimize_routes given p plan).plan)) (cost p (drop_empty plan)) ≡ true
  unfolding minimize_routes reduce
  minimize_falls plan =
      cond_rule (λ (x : Result). length (drop_empty x.plan) < length (drop_empty plan) → lt (cost p (drop_empty x.plan)) (cost p (drop_empty plan)) ≡ true)
      (has_soft_windows p.places.flags)
      (λ _ h. absurd (omega (arith, h)))
      (λ _. falls plan (reduce (attempt given p) plan).plan
      (rounds_down (drop_empty plan) (length (drop_empty plan)) (drop_empty plan) (record { steps = 0; draws = 0 }) (record { full = keep_passes non_empty plan; less = inl refl })))
