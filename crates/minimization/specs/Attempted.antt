-- What an attempt keeps: the stops of the plan, and the bounds of the counts. Assumes nothing.
use Rattle.std.specs.Prelude.{ℕ, ◌+◌, ◌*◌, ◌≤◌, ◌<◌, ◌≡◌, true, List, [], length}
use Rattle.std.proofs.Common.{arith}
use Rattle.pool_cost.specs.laws.All.{All, all_of}
use Rattle.pool_cost.specs.laws.Edits.{length_erase, all_erase}
use Rattle.pool_cost.specs.laws.Counts.{count, count_reverse}
use Rattle.pool_cost.specs.models.Problem.{Problem}
use Rattle.pool_cost.specs.plan.Plan.{Plan, route, non_empty}
use Rattle.pool_cost.specs.plan.Routes.{occurs_erase}
use Rattle.pool_cost.specs.local_search.Options.{Each, each_then_some, each_bind}
use Rattle.pool_cost.specs.route_cost.Route.{cost}
use Rattle.pool_cost.specs.route_load.Feasible.{feasible}
use Rattle.pool_cost.specs.local_search.declared.rounds.Counts.{Counts}
use Rattle.pool_cost.specs.local_search.Reduced.{Better, Bounded, Reduces, reduces_fewer}
use Rattle.pool_cost.specs.ejection_pool.Pool.{Allowance, empty_into}
use Rattle.pool_cost.specs.EjectionPoolPlacing.{pool_bounded, Placing, pool_keeps}
use Rattle.pool_cost.specs.Attempt.{if_cheaper, attempt}

module _ (given : Allowance) (p : Problem) where
  -- M steps at most
  pub attempt_bounded : (b : ℕ) (routes : Plan) (r : ℕ) (n : Counts) → given.limit + n.steps ≤ b → n.draws ≤ 500 * n.steps
      → Bounded b (attempt given p routes r n).counts
  unfolding attempt empty_into
  attempt_bounded b routes r n le d = pool_bounded given p b given.limit _ le (record { steps_in = omega arith; draws_in = d })

module _ (p : Problem) (G : List ℕ → Type 0) (pass : (r : List ℕ) → feasible p r ≡ true → non_empty r ≡ true → G r) (before : Plan) where
  pub attempt_better : (given : Allowance) (r : ℕ) (n : Counts) → r < length before → All G before → Each (Better G before) (attempt given p before r n).plan
  unfolding attempt empty_into if_cheaper count
  attempt_better given r n r-in g =
      each_bind (λ x. Placing G before x []) (Better G before) _ (if_cheaper p (cost p before))
      (λ x h. each_then_some (Better G before) _ x (λ _. record { fewer = h.number; places = λ s. omega (arith, h.places s); kinds = h.kinds }))
      (pool_keeps p G pass before given given.limit _ (record {
        number = length_erase r before r-in;
        places = λ s. omega (arith, occurs_erase s r before r-in, count_reverse s (route r before));
        kinds = all_erase r g;
      }))

-- the laws of the rounds speak of this search
pub attempt_reduces : (given : Allowance) (p : Problem) → Reduces (attempt given p) given.limit
attempt_reduces given p = record {
  better = λ routes r n r-in. attempt_better p (λ q. Unit) (λ q _ _. tt) routes given r n r-in (all_of routes [] (λ i h. tt));
  bounded = attempt_bounded given p;
}

-- an accepted attempt leaves fewer routes, so `rounds_enough` speaks of this search: the bound on the rounds never cuts it short
pub attempt_fewer : (given : Allowance) (p : Problem) (routes : Plan) (r : ℕ) (n : Counts) → r < length routes
    → Each (λ x. length x < length routes) (attempt given p routes r n).plan
attempt_fewer given p = reduces_fewer (attempt given p) given.limit (attempt_reduces given p)
