-- The search: what an attempt of a round asks for, what each of its answers says of the rounds, and what the call answers. Assumes nothing.
use Prim.Native.Nat.{ℕ}
use mathlib.Core.Path.{◌≡◌, refl, ap, subst, ◌∙◌}
use mathlib.Core.List.{List, ◌++◌}
use Rattle.std.proofs.Common.{Option}
use native.Mathlib.Omega.{arith}
use lib.ListN.{length, take, drop}
use Rattle.elimination_round.specs.models.Problem.{Problem}
use Rattle.elimination_round.specs.route_order.declared.Pick.{Pick}
use Rattle.elimination_round.specs.plan.Plan.{Plan, split}
use Rattle.elimination_round.specs.route_order.Order.{following}
use Rattle.elimination_round.specs.local_search.declared.rounds.Counts.{Counts}
use Rattle.elimination_round.specs.local_search.declared.rounds.Next.{Next}
use Rattle.elimination_round.specs.local_search.declared.rounds.Next.TheVariants.{Accepted as Took}
use Rattle.elimination_round.specs.local_search.Rounds.{reduce, try_each}
use Rattle.elimination_round.specs.local_search.Reduced.{Bounded}
use Rattle.elimination_round.specs.local_search.Search.{but_last, NextLeaves, Answers, tried_next, uncounted, left_with}
use Rattle.elimination_round.specs.LocalSearchRoundLaws.{rounds_of}
use Rattle.elimination_round.specs.LocalSearchSearchLaws.{Rounding, Trying, taken, after_accepted}
use Rattle.elimination_round.specs.elimination_moves.Eliminate.{attempt, eliminate_routes}
use Rattle.elimination_round.specs.elimination_moves.Eliminated.{attempt_reduces}

-- ---- the loops

-- nothing is counted
still : (m : Counts) → Bounded 0 m → m ≡ uncounted
still m h =
    let a : m.steps ≡ 0 = omega (arith, h.steps_in) in
    let b : m.draws ≡ 0 = omega (arith, h.draws_in) in
    ap (λ (k : ℕ). record { steps = k; draws = m.draws }) a ∙ ap (λ (k : ℕ). record { steps = 0; draws = k }) b

module _ (p : Problem) {ls₁ s₁ : List ℕ} {count : ℕ} {ls s : List ℕ} {last : Option Pick}
    (g : Trying (attempt p) 0 p.roads.size ls₁ s₁ uncounted count ls s uncounted last) where
  module _ (z : Next) (Y S : List ℕ)
      (e : tried_next (attempt p) (split (take count ls) s) (take count ls) uncounted z (split (but_last Y) S) ≡ try_each (attempt p) (split (take count ls) s) (following (take count ls) last) uncounted)
      (h : NextLeaves 0 p.roads.size (take count ls) s last uncounted z Y S) (m : Counts) where
    pub after_gone : length Y ≡ length (take count ls) → z ≡ Took m → (ls₀ s₀ : List ℕ) → length ls₁ ≡ length ls₀ → length s₁ ≡ length s₀ → length S ≡ length s
        → reduce (attempt p) (split ls₀ s₀) ≡ rounds_of (attempt p) (split (take count ls₁) s₁) uncounted
        → Rounding (attempt p) 0 p.roads.size ls₀ s₀ (Y ++ drop count ls) S uncounted
    after_gone long f ls₀ s₀ i j k r =
        subst (λ (m : Counts). Rounding (attempt p) 0 p.roads.size ls₀ s₀ (Y ++ drop count ls) S m)
        (still m (taken _ _ _ g z Y S e h m long f).counted) (after_accepted _ _ _ g z Y S e h m long f (attempt_reduces p) ls₀ s₀ i j k r)

-- ---- the call

pub rounds_answer : (p : Problem) (plan : Plan) (width count : ℕ) (L S : List ℕ) → Answers (reduce (attempt p) plan) width count uncounted L S
    → Answers (left_with (eliminate_routes p plan)) width count uncounted L S
unfolding eliminate_routes
rounds_answer p plan width count L S h = record { routes = h.routes; counted = refl; slices = h.slices }
