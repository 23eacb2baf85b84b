-- The search with the pool: what an attempt of a round asks for. Assumes nothing.
use Prim.Native.Nat.{ℕ, ◌+◌, ◌*◌, ◌≤◌, ◌<◌}
use mathlib.Core.Path.{◌≡◌}
use mathlib.Core.List.{List}
use Rattle.std.proofs.Common.{Option}
use native.Mathlib.Nat.{mul-le-mul_right}
use native.Mathlib.Omega.{arith}
use Rattle.minimization_round.specs.models.Problem.{Problem}
use Rattle.minimization_round.specs.route_order.declared.Pick.{Pick}
use Rattle.minimization_round.specs.local_search.declared.rounds.Counts.{Counts}
use Rattle.minimization_round.specs.local_search.Reduced.{triangle, triangle_is}
use Rattle.minimization_round.specs.LocalSearchSearchLaws.{Trying, trying_steps}
use Rattle.minimization_round.specs.ejection_pool.Pool.{Allowance}
use Rattle.minimization_round.specs.pool_cost.Attempt.{attempt}

-- a call of 256 routes counts fewer steps than this
most_steps : (limit : ℕ) → limit ≤ 65535 → limit * triangle 256 ≤ 65535 * 32896
most_steps limit h =
    let t : triangle 256 ≡ 32896 = omega (arith, triangle_is 256) in
    rw t (mul-le-mul_right 32896 h)

module _ (given : Allowance) (p : Problem) {ls₁ s₁ : List ℕ} {n₁ : Counts} {count : ℕ} {ls s : List ℕ} {n : Counts} {last : Option Pick}
    (g : Trying (attempt given p) given.limit p.roads.size ls₁ s₁ n₁ count ls s n last) where
  pub trying_countable : given.limit ≤ 65535 → n.draws + 500 * given.limit < 9_000_000_000_000_000_000
  trying_countable l = omega (arith, g.drawn, trying_steps _ _ _ g, most_steps given.limit l)
