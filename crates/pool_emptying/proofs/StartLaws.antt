-- The failures at the start: one for every place. Assumes nothing.
use Prim.Native.Nat.{ℕ, zero, suc, ◌≤◌}
use mathlib.Core.Path.{◌≡◌, refl, sym, ap, subst, ◌∙◌}
use mathlib.Core.List.{List, ◌∷◌}
use native.Mathlib.Nat.{le_of_suc-le-suc, not-suc-le-zero}
use lib.ListN.{take, replicate}
use Rattle.pool_turns.specs.models.Problem.{Problem}
use Rattle.pool_turns.specs.plan.Plan.{Plan}
use Rattle.pool_turns.specs.local_search.declared.rounds.Counts.{Counts}
use Rattle.pool_turns.specs.local_search.Rounds.{Tried}
use Rattle.pool_turns.specs.ejection_made.Made.{Stack}
use Rattle.pool_turns.specs.ejection_pool.Pool.{Allowance, run_pool}
use Rattle.pool_turns.specs.ejection_pool.Running.{Running, state}

front_ones : (n m : ℕ) → n ≤ m → take {A = ℕ} n (replicate m 1) ≡ replicate n 1
front_ones zero m h = refl
front_ones (suc n) zero h = absurd (not-suc-le-zero h)
front_ones (suc n) (suc m) h = ap (λ (l : List ℕ). 1 ∷ l) (front_ones n m (le_of_suc-le-suc h))

-- the front of the 256 ones, of as many as there are places
module _ {p : Problem} (few : p.roads.size ≤ 256) {limit : ℕ} {plan : Plan} {room : ℕ} {pool : Stack} {work : List ℕ} {counts : Counts}
    (g : Running p limit plan room pool work (replicate p.roads.size 1) counts) {n : ℕ} (e : n ≡ p.roads.size) where
  ones_are : replicate p.roads.size 1 ≡ take {A = ℕ} n (replicate 256 1)
  ones_are = rw e (sym (front_ones p.roads.size 256 few))

  pub ones_running : Running p limit plan room pool work (take n (replicate 256 1)) counts
  ones_running = subst (λ (f : List ℕ). Running p limit plan room pool work f counts) ones_are g

  pub ones_emptied : (given : Allowance) {x : Tried} → x ≡ run_pool given p limit (state plan pool (take n (replicate 256 1)) counts)
      → x ≡ run_pool given p limit (state plan pool (replicate p.roads.size 1) counts)
  ones_emptied given e = e ∙ ap (λ (f : List ℕ). run_pool given p limit (state plan pool f counts)) (sym ones_are)
