-- The pool as it lies in cells: in the first ones of a list, the stop in the last of these on top. Assumes nothing.
use Rattle.std.specs.Prelude.{ℕ, zero, suc, ◌+◌, ◌-◌, ◌≤◌, ◌<◌, ◌≡◌, refl, get_or, set, take}
use Rattle.std.proofs.Common.{ap, ◌∙◌, le_refl, not-suc-le-zero, add-one, arith, get_or-set_other}
use mathlib.Core.List.{List, [], ◌∷◌, reverse, reverse-append}
use Rattle.std.proofs.Math.ListN.{length}
use Rattle.std.proofs.Math.Seq.{get_or-set_same, take-suc, take_all}
use Rattle.ejection_made.specs.Made.{Stack, pooled}

-- the pool in the first m cells, the one in the last of them on top
unfoldable pub stack : List ℕ → ℕ → List ℕ
stack cells zero = []
stack cells (suc m) = get_or cells m 0 ∷ stack cells m

-- a cell above the pool is none of it
pub stack_above : (cells : List ℕ) (m i x : ℕ) → m ≤ i → stack (set cells i x) m ≡ stack cells m
unfolding stack
stack_above cells zero i x h = refl
stack_above cells (suc m) i x h = rw (get_or-set_other cells i m x 0 (λ e. omega arith), stack_above cells m i x (omega arith))

-- a push
pub stack_push : (cells : List ℕ) (m x : ℕ) → m < length cells → stack (set cells m x) (m + 1) ≡ x ∷ stack cells m
unfolding stack
stack_push cells m x h = rw (add-one m, get_or-set_same cells m x 0 h, stack_above cells m m x (omega arith))

-- a pop
pub stack_pop : (cells : List ℕ) (m : ℕ) → 0 < m → stack cells m ≡ get_or cells (m - 1) 0 ∷ stack cells (m - 1)
unfolding stack
stack_pop cells zero h = absurd (not-suc-le-zero h)
stack_pop cells (suc m) h =
    let e : suc m - 1 ≡ m = omega arith in
    rw e

-- ---- and as the code holds it

stack_taken : (cells : List ℕ) (m : ℕ) → m ≤ length cells → stack cells m ≡ reverse (take m cells)
unfolding stack
stack_taken cells zero h = refl
stack_taken cells (suc m) h =
    rw (stack_taken cells m (omega (arith, h)), take-suc cells m 0 h, reverse-append (take m cells) (get_or cells m 0 ∷ []))

-- all of its items are the pool
pub stack_items : (pool : Stack) → stack pool.items (length pool.items) ≡ pooled pool
stack_items pool =
    stack_taken pool.items (length pool.items) (le_refl _) ∙ ap reverse (take_all (length pool.items) pool.items (le_refl _))
