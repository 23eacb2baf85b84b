-- What the code asks of a state of the pool: the places are places of the problem, plan and pool together are n stops, failures and draws leave
-- room for the steps left. (A turn keeps it: proofs/PooledLaws.) Assumes nothing.
use Rattle.std.specs.Prelude.{ℕ, ◌+◌, ◌*◌, ◌≤◌, ◌<◌, ◌≡◌, length, get_or}
use Rattle.ejection_made.specs.laws.Counts.{count}
use Rattle.ejection_made.specs.models.Problem.{Problem}
use Rattle.ejection_made.specs.plan.Plan.{flat, occurs}
use Rattle.ejection_pool.specs.Pool.{State}

-- n stops in plan and pool together, with `left` steps to the limit
pub record Pooled (p : Problem) (n left : ℕ) (s : State) : Type 0 where
  pub places : (c : ℕ) → p.roads.size ≤ c → occurs c s.routes + count c s.pool ≡ 0
  pub all : length (flat s.routes) + length s.pool ≡ n
  pub sized : length s.failures ≡ p.roads.size
  pub counted : (k : ℕ) → get_or s.failures k 0 + left ≤ 65536
  pub drawn : s.counts.draws + 500 * left < 9_000_000_000_000_000_000
