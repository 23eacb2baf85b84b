-- What the search keeps: steps and draws are bounded, every place occurs as often as before, every route is of a kind
-- that the given routes and every feasible route have, and there are no more routes. Assumes nothing.
use Rattle.std.specs.Prelude.{ℕ, ◌*◌, ◌≤◌, ◌<◌, ◌≡◌, refl, true, List, length}
use Rattle.std.proofs.Common.{◌∙◌, le_refl, arith}
use Rattle.pool_cost.specs.laws.All.{All}
use Rattle.pool_cost.specs.laws.Keeps.{length_keep}
use Rattle.pool_cost.specs.laws.Loops.{cond_rule}
use Rattle.pool_cost.specs.models.Problem.{Problem}
use Rattle.pool_cost.specs.evaluation.Check.{has_soft_windows}
use Rattle.pool_cost.specs.plan.Plan.{Plan, non_empty, drop_empty, occurs}
use Rattle.pool_cost.specs.plan.Dropped.{occurs_drop_empty}
use Rattle.pool_cost.specs.local_search.Options.{Each}
use Rattle.pool_cost.specs.route_load.Feasible.{feasible}
use Rattle.pool_cost.specs.local_search.declared.rounds.Counts.{Counts}
use Rattle.pool_cost.specs.local_search.Rounds.{Result, reduce}
use Rattle.pool_cost.specs.local_search.Reduced.{Better, Bounded, triangle, Ended, reduce_ended}
use Rattle.pool_cost.specs.ejection_pool.Pool.{Allowance}
use Rattle.pool_cost.specs.Attempt.{attempt}
use Rattle.minimization.specs.Minimize.{minimize_routes}
use Rattle.minimization.specs.Attempted.{attempt_bounded, attempt_better}

pub record Minimized (given : Allowance) (G : List ℕ → Type 0) (plan : Plan) (x : Result) : Type 0 where
  pub counts_in : Bounded (given.limit * triangle (length (drop_empty plan))) x.counts
  pub places : (c : ℕ) → occurs c x.plan ≡ occurs c plan
  pub kinds : All G x.plan
  pub no_more : length (drop_empty x.plan) ≤ length (drop_empty plan)
  pub no_longer : length x.plan ≤ length plan

pub minimize_keeps : (given : Allowance) (p : Problem) (G : List ℕ → Type 0) → ((r : List ℕ) → feasible p r ≡ true → non_empty r ≡ true → G r)
    → (plan : Plan) → All G plan → Minimized given G plan (minimize_routes given p plan)
unfolding minimize_routes
minimize_keeps given p G pass plan g =
    cond_rule (Minimized given G plan) (has_soft_windows p.places.flags)
    (λ _. record {
      counts_in = record { steps_in = omega arith; draws_in = omega arith };
      places = λ s. refl;
      kinds = g;
      no_more = le_refl (length (drop_empty plan));
      no_longer = le_refl (length plan);
    })
    (λ _. record {
      counts_in = e.counts_in;
      places = λ s. e.places s ∙ occurs_drop_empty s plan;
      kinds = e.kinds;
      no_more = omega (arith, length_keep non_empty x.plan, e.no_more);
      no_longer = omega (arith, length_keep non_empty plan, e.no_more);
    })
  where
    x : Result
    x = reduce (attempt given p) plan

    better : (routes : Plan) (r : ℕ) (n : Counts) → r < length routes → All G routes → Each (Better G routes) (attempt given p routes r n).plan
    better routes r n r-in a = attempt_better p G pass routes given r n r-in a

    e : Ended (attempt given p) given.limit G better (attempt_bounded given p) (drop_empty plan) (given.limit * triangle (length (drop_empty plan))) x
    e = reduce_ended (attempt given p) given.limit G better (attempt_bounded given p) plan g
