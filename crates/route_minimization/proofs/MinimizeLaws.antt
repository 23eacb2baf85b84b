-- What the call answers: with a soft window the plan as given, and else what the search finds. Assumes nothing.
use Prim.Native.Nat.{ℕ}
use mathlib.Core.Path.{◌≡◌, refl, sym, ap, ◌∙◌}
use mathlib.Core.Bool.{Bool, true, false}
use mathlib.Core.List.{List}
use native.Mathlib.Omega.{arith}
use lib.ListN.{length}
use Rattle.minimization_search.specs.models.Problem.{Problem}
use Rattle.minimization_search.specs.evaluation.Check.{has_soft_windows}
use Rattle.minimization_search.specs.plan.Plan.{split, flat, lengths_of, total, padded}
use Rattle.minimization_search.specs.plan.Slices.{length_split, lengths_split, flat_split_all}
use Rattle.minimization_search.specs.plan.Dropped.{padded_full}
use Rattle.minimization_search.specs.local_search.declared.rounds.Counts.{Counts}
use Rattle.minimization_search.specs.local_search.Rounds.{reduce}
use Rattle.minimization_search.specs.local_search.Search.{Answers}
use Rattle.minimization_search.specs.ejection_pool.Pool.{Allowance}
use Rattle.minimization_search.specs.pool_cost.Attempt.{attempt}
use Rattle.minimization_search.specs.minimization.Minimize.{minimize_routes}

module _ (given : Allowance) (p : Problem) (ls s : List ℕ) (v : Bool) (e : v ≡ has_soft_windows p.places.flags) where
  pub soft_answers : total ls ≡ length s → v ≡ true → Answers (minimize_routes given p (split ls s)) (length ls) (length ls) (record { steps = 0; draws = 0 }) ls s
  unfolding minimize_routes
  soft_answers w f =
      let own : lengths_of (split ls s) ≡ ls = lengths_split ls s (omega arith) in
      let lengths : ls ≡ padded (length ls) (lengths_of (split ls s)) = sym (ap (padded (length ls)) own ∙ padded_full ls) in
      let stops : s ≡ flat (split ls s) = sym (flat_split_all ls s w) in
      rw (← e, f) (record {
        routes = sym (length_split ls s);
        counted = refl;
        slices = ap (λ (l : List ℕ). record { lengths = l; stops = s }) lengths ∙ ap (λ (l : List ℕ). record { lengths = padded (length ls) (lengths_of (split ls s)); stops = l }) stops;
      })

  pub search_answers : (size k : ℕ) (n : Counts) (L S : List ℕ) → v ≡ false → Answers (reduce (attempt given p) (split ls s)) size k n L S
      → Answers (minimize_routes given p (split ls s)) size k n L S
  unfolding minimize_routes
  search_answers size k n L S f h = rw (← e, f) h
