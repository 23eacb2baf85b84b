-- A loop over the routes of a plan, each with its number, whatever its turn f makes of the best so far: `for (k, route) in routes.each().enumerate()`.
-- Assumes nothing.
use Rattle.std.proofs.Common.{◌≡◌, ℕ, suc, ◌+◌, ◌≤◌, ◌<◌, List, [], ◌∷◌, length, drop, get_or, refl, sym, ap, ◌∙◌, arith, add-one, drop-cons, length-drop}
use Rattle.cell_exchange.specs.laws.All.{All, all_get}
use Rattle.cell_exchange.specs.laws.Loops.{loop, loop_none, loop_more, loop_end}
use Rattle.plan.specs.Plan.{Plan, route}

-- what the routes before k leave of the best so far, and of the plan
pub record Left {S : Type 0} (f : ℕ → List ℕ → S → S) (first found : S) (plan left : Plan) (k : ℕ) : Type 0 where
  pub within : k ≤ length plan
  pub routes : left ≡ drop k plan
  pub same : found ≡ loop k (λ k. f k (route k plan)) first

module _ {S : Type 0} (f : ℕ → List ℕ → S → S) (first : S) (plan : Plan) where
  abbrev turn : ℕ → S → S
  turn k = f k (route k plan)

  pub left_start : {left : Plan} {k : ℕ} → left ≡ plan → k ≡ 0 → Left f first first plan left k
  left_start e z = rw (e, z) (record { within = omega arith; routes = refl; same = loop_none turn first })

  module _ (found : S) {left : Plan} {k : ℕ} (g : Left f first found plan left k) where
    module _ (r : List ℕ) (more : Plan) (e : left ≡ r ∷ more) where
      pub left_there : k < length plan
      left_there = omega (arith, g.within, length-drop k plan, ap length (sym e ∙ g.routes))

      parts : r ∷ more ≡ route k plan ∷ drop (suc k) plan
      parts = sym e ∙ g.routes ∙ drop-cons plan k [] left_there

      pub left_is : r ≡ route k plan
      left_is = ap (λ (p : Plan). get_or p 0 []) parts

      pub left_all : {P : List ℕ → Type 0} → All P plan → P r
      left_all all = rw left_is (all_get k [] all left_there)

      pub left_more : (i j : ℕ) (next : S) → i ≡ k → j ≡ k + 1 → next ≡ f i r found → Left f first next plan more j
      left_more i j next n m t =
          rw (m, add-one k)
          (record {
            within = left_there;
            routes = ap (λ (p : Plan). drop 1 p) parts;
            same = rw (← add-one k) (loop_more turn first k found next g.same (rw (n, left_is) at t));
          })

    pub left_end : left ≡ [] → found ≡ loop (length plan) turn first
    left_end e = loop_end turn first k (length plan) found g.same (omega (arith, g.within, length-drop k plan, ap length (sym e ∙ g.routes)))
