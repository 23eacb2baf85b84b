-- A turn of the pool keeps what the code asks of its state: plan and pool together stay as they are, failures rise by one a step and draws by
-- 500. Assumes nothing.
use Rattle.std.specs.Prelude.{ℕ, zero, suc, ◌+◌, ◌≤◌, ◌≡◌, refl, length, get_or, set}
use Rattle.std.proofs.Common.{sym, ap, ◌∙◌, arith, length-set}
use Rattle.std.proofs.Math.Path.{subst}
use mathlib.Core.List.{List, [], ◌∷◌, ◌++◌}
use Rattle.std.proofs.Math.ListN.{length-append}
use Rattle.ejection_made.specs.laws.All.{all_of}
use Rattle.ejection_made.specs.laws.Counts.{count_append, same_length}
use Rattle.ejection_made.specs.models.Problem.{Problem}
use Rattle.ejection_made.specs.plan.Plan.{flat}
use Rattle.ejection_made.specs.local_search.Planned.{Planned}
use Rattle.random_moves.specs.PerturbationMoveDraws.{perturb_draws}
use Rattle.ejection_made.specs.ejection.Eject.{make_room}
use Rattle.ejection_pool.specs.Pool.{Allowance, State, more, turn}
use Rattle.ejection_pool.proofs.Turns.{Then, turn_rule}
use Rattle.ejection_pool.proofs.Placing.{Placing, turn_placing}
use Rattle.ejection_pool.specs.Pooled.{Pooled}

pub pooled_planned : (p : Problem) (n left : ℕ) (s : State) → n ≤ 256 → Pooled p n left s → Planned p.roads.size s.routes
pooled_planned p n left s f h = record { few = omega (arith, h.all); places = λ c i. omega (arith, h.places c i) }

-- fewer steps to the limit ask less
pub pooled_fewer : (p : Problem) (n left fewer : ℕ) (s : State) → fewer ≤ left → Pooled p n left s → Pooled p n fewer s
pooled_fewer p n left fewer s f h =
    record { places = h.places; all = h.all; sized = h.sized; counted = λ k. omega (arith, h.counted k); drawn = omega (arith, h.drawn) }

-- ---- a turn

abbrev Any : List ℕ → Type 0
Any r = Unit

-- what failures and draws do
record Rises (s t : State) : Type 0 where
  sized : length t.failures ≡ length s.failures
  counted : (k : ℕ) → get_or t.failures k 0 ≤ get_or s.failures k 0 + 1
  drawn : t.counts.draws ≤ s.counts.draws + 500

-- a failure more
pub raised : (l : List ℕ) (c k : ℕ) → get_or (set l c (get_or l c 0 + 1)) k 0 ≤ get_or l k 0 + 1
raised [] c k = omega arith
raised (x ∷ l) zero zero = omega arith
raised (x ∷ l) zero (suc k) = omega arith
raised (x ∷ l) (suc c) zero = omega arith
raised (x ∷ l) (suc c) (suc k) = raised l c k

module _ (given : Allowance) (p : Problem) where
  turn_rises : (s : State) → Then (Rises s) (λ _. Unit) (turn given p s s.pool)
  turn_rises s =
      turn_rule given p (Then (Rises s) (λ _. Unit)) s s.pool
      (λ _. tt)
      (λ n _ _ _. tt)
      (λ c rest x _ _. record { sized = refl; counted = λ k. omega arith; drawn = omega arith })
      (λ c rest failures e _ f _. record {
        sized = ap length f ∙ length-set s.failures c (get_or s.failures c 0 + 1);
        counted = λ k. subst (λ (l : List ℕ). get_or l k 0 ≤ get_or s.failures k 0 + 1) (sym f) (raised s.failures c k);
        drawn = perturb_draws p given.tape (record { routes = make_room s.routes c e; draws = s.counts.draws });
      })

  pub pooled_more : (n left : ℕ) (s t : State) → Pooled p n (suc left) s → turn given p s s.pool ≡ more t → Pooled p n left t
  unfolding flat
  pooled_more n left s t h e =
      let before = s.pool ∷ s.routes in
      let same : Placing Any before t.routes t.pool =
      subst (Then (λ u. Placing Any before u.routes u.pool) _) e
      (turn_placing p Any (λ r _ _. tt) before given s (record {
        number = refl;
        places = λ c. omega (arith, count_append c s.pool (flat s.routes));
        kinds = all_of s.routes [] (λ i h. tt);
      })) in
      let long = same_length (flat t.routes ++ t.pool) (s.pool ++ flat s.routes) (λ c. count_append c (flat t.routes) t.pool ∙ same.places c) in
      let rises : Rises s t = subst (Then (Rises s) (λ _. Unit)) e (turn_rises s) in
      record {
        places = λ c i. omega (arith, same.places c, count_append c s.pool (flat s.routes), h.places c i);
        all = omega (arith, long, length-append (flat t.routes) t.pool, length-append s.pool (flat s.routes), h.all);
        sized = rises.sized ∙ h.sized;
        counted = λ k. omega (arith, rises.counted k, h.counted k);
        drawn = omega (arith, rises.drawn, h.drawn);
      }
