-- Laws of specs/Place on the routes of a plan, each from the facts that the code has where it needs it. Assumes nothing.
use Rattle.std.proofs.Common.{◌≡◌, ℕ, ◌≤◌, ◌<◌, true, false, Option, None, Some, List, [], length, sym, ap, ◌∙◌, arith}
use lib.Ieee.{Float, le}
use Rattle.reinsertion_candidates.specs.floats.Binary64.{◌⊕◌}
use Rattle.reinsertion_candidates.specs.laws.All.{All, all_of}
use Rattle.reinsertion_candidates.specs.models.Problem.{Problem}
use Rattle.reinsertion_candidates.specs.plan.Plan.{Plan, split, total}
use Rattle.reinsertion_candidates.specs.plan.Slices.{length_split, length_route, route_within}
use Rattle.reinsertion_candidates.specs.route_cost.declared.Insertion.{Insertion}
use Rattle.reinsertion_candidates.specs.Candidates.{candidates, by_cost, first_passing}
use Rattle.reinsertion_candidates.specs.Place.{look_over, unless_cut}
use Rattle.reinsertion_candidates.proofs.PlaceIs.{place_is}

-- ---- the routes of the plan

-- no route has more stops than there are
pub all_few : (ls s : List ℕ) → total ls ≤ length s → total ls < 256 → All (λ r. length r < 256) (split ls s)
all_few ls s u few = all_of (split ls s) [] (λ k h. omega (arith, few, length_route ls s u k, route_within ls k (rw length_split at h)))

-- ---- the place: there is no candidate; the best reaches the cut; it does not

module _ (p : Problem) (rest : Plan) (c : ℕ) (added saved : Float) (best : Option Insertion) (e : best ≡ look_over p c added saved rest) where
  pub place_none : best ≡ None → None ≡ first_passing p rest c added saved (by_cost (candidates p c rest))
  unfolding unless_cut
  place_none f = ap (unless_cut added saved) (sym f ∙ e) ∙ place_is p rest c added saved

  module _ (x : Insertion) (f : best ≡ Some x) where
    pub place_cut : le saved (added ⊕ x.cost) ≡ true → None ≡ first_passing p rest c added saved (by_cost (candidates p c rest))
    place_cut h = cut ∙ ap (unless_cut added saved) (sym f ∙ e) ∙ place_is p rest c added saved
      where
        cut : None ≡ unless_cut added saved (Some x)
        cut = unfold unless_cut in rw h

    pub place_found : le saved (added ⊕ x.cost) ≡ false → Some x ≡ first_passing p rest c added saved (by_cost (candidates p c rest))
    place_found h = uncut ∙ ap (unless_cut added saved) (sym f ∙ e) ∙ place_is p rest c added saved
      where
        uncut : Some x ≡ unless_cut added saved (Some x)
        uncut = unfold unless_cut in rw h
