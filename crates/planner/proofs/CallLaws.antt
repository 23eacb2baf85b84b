-- The reply of a call that changes a plan, from its refusal and what its search answers. Assumes nothing.
use Prim.Native.Nat.{ℕ}
use mathlib.Core.Path.{◌≡◌, ap, ◌∙◌}
use Rattle.std.specs.Prelude.{Option, None, Some}
use lib.ListN.{length}
use Rattle.minimization.specs.plan.Plan.{Slices}
use Rattle.minimization.specs.local_search.declared.rounds.Counts.{Counts}
use Rattle.minimization.specs.local_search.declared.rounds.Reduction.{Reduction}
use Rattle.minimization.specs.local_search.Rounds.{Result}
use Rattle.minimization.specs.local_search.Search.{Answers}
use Rattle.planner.specs.Calls.{refused, answered, Reply, reply}

pub reply_refused : (n : ℕ) (o : Option ℕ) (s : Slices) (x : Result) → Some n ≡ o → ◌≡◌ {A = Reply} (record { answer = refused n; slices = s }) (reply s o x)
unfolding reply
reply_refused n o s x e = ap (λ (y : Option ℕ). reply s y x) e

reduction_is : (d : Reduction) (routes : ℕ) (counts : Counts) → d.routes ≡ routes → d.counts ≡ counts → d ≡ record { routes = routes; counts = counts }
reduction_is d routes counts e f =
    ap (λ (k : ℕ). record { routes = k; counts = d.counts }) e ∙ ap (λ (n : Counts). record { routes = routes; counts = n }) f

pub reply_answered : (o : Option ℕ) (s t : Slices) (x : Result) (d : Reduction) → None ≡ o
    → Answers x (length s.lengths) d.routes d.counts t.lengths t.stops → ◌≡◌ {A = Reply} (record { answer = answered d; slices = t }) (reply s o x)
unfolding reply
reply_answered o s t x d e a =
    ap (λ (y : Reduction). record { answer = answered y; slices = t }) (reduction_is d (length x.plan) x.counts a.routes a.counted)
    ∙ ap (λ (y : Slices). record { answer = answered (record { routes = length x.plan; counts = x.counts }); slices = y }) a.slices
    ∙ ap (λ (y : Option ℕ). reply s y x) e
