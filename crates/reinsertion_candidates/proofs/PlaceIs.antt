-- The pass of specs/Place finds the first candidate in sorted order that passes. Assumes nothing.
use Prim.Native.Nat.{ℕ, suc}
use Rattle.std.specs.Prelude.{◌≡◌, Bool, ◌||◌, length, Float}
use Rattle.std.proofs.Math.Path.{refl}
use Rattle.std.proofs.Common.{ap, sym, ◌∙◌}
use mathlib.Core.List.{List, [], ◌∷◌, map}
use Rattle.std.proofs.Math.Bool.{true, false, cond}
use Rattle.std.specs.Prelude.{Option, None, Some}
use Rattle.std.specs.Float.Ieee.{le}
use Rattle.reinsertion_worth.specs.floats.Binary64.{◌⊕◌, total_rank, total_less}
use Rattle.reinsertion_worth.specs.laws.Loops.{loop, loop_same, foldl}
use Rattle.reinsertion_worth.specs.laws.Sorts.{range}
use Rattle.reinsertion_worth.specs.laws.Firsts.{Ordering, ordering_by, find, find_sorted, better, foldl_map, foldl_flat, foldl_keep, foldl_range}
use Rattle.reinsertion_worth.specs.models.Problem.{Problem}
use Rattle.reinsertion_worth.specs.plan.Plan.{Plan, route}
use Rattle.reinsertion_worth.specs.route_cost.declared.Insertion.{Insertion}
use Rattle.reinsertion_worth.specs.route_load.Feasible.{has_room, checked}
use Rattle.reinsertion_worth.specs.Worth.{insertion_worth}
use Rattle.reinsertion_candidates.specs.Candidates.{positions, candidates_in, candidates, nowhere, by_cost, trial, first_passing}
use Rattle.reinsertion_candidates.specs.Place.{counts, look_at, look_through, look_over, unless_cut}

-- ---- it finds the first candidate in sorted order that passes

abbrev cheaper : Insertion → Insertion → Bool
cheaper x y = total_less x.cost y.cost

cheaper_ordering : Ordering cheaper
unfolding total_less
cheaper_ordering = ordering_by (λ (x : Insertion). total_rank x.cost)

module _ (p : Problem) (rest : Plan) (c : ℕ) (added saved : Float) where
  abbrev ends : Insertion → Bool
  ends x = le saved (added ⊕ x.cost) || checked p (trial rest c x)

  passing_found : (xs : List Insertion) → first_passing p rest c added saved xs ≡ unless_cut added saved (find ends xs)
  unfolding first_passing find unless_cut
  passing_found [] = refl
  passing_found (x ∷ xs) = go (le saved (added ⊕ x.cost)) (checked p (trial rest c x)) refl (passing_found xs)
    where
      go : (a b : Bool) → le saved (added ⊕ x.cost) ≡ a → first_passing p rest c added saved xs ≡ unless_cut added saved (find ends xs)
          → cond a None (cond b (Some x) (first_passing p rest c added saved xs)) ≡ unless_cut added saved (cond (a || b) (Some x) (find ends xs))
      go true b e h = rw e
      go false true e h = rw e
      go false false e h = h

  module _ (k : ℕ) where
    abbrev at : ℕ → Insertion
    at pos = record { cost = insertion_worth p (route k rest) pos c; route = k; pos = pos }

    turn : (pos : ℕ) (best : Option Insertion) → cond (counts p (at pos).cost) (better cheaper ends best (at pos)) best ≡ look_at p c added saved k (route k rest) pos best
    unfolding better look_at
    turn pos None = refl
    turn pos (Some b) = refl

    -- the candidates of a route one after the other
    along : (best : Option Insertion) → foldl (better cheaper ends) best (positions p c k (route k rest)) ≡ loop (suc (length (route k rest))) (look_at p c added saved k (route k rest)) best
    unfolding positions
    along best =
        let n = suc (length (route k rest)) in
        foldl_keep (better cheaper ends) (λ x. counts p x.cost) best (map at (range 0 n))
        ∙ foldl_map (λ (t : Option Insertion) (x : Insertion). cond (counts p x.cost) (better cheaper ends t x) t) at best (range 0 n)
        ∙ foldl_range (λ (t : Option Insertion) (pos : ℕ). cond (counts p (at pos).cost) (better cheaper ends t (at pos)) t) best n
        ∙ loop_same n (λ pos t. cond (counts p (at pos).cost) (better cheaper ends t (at pos)) t) (look_at p c added saved k (route k rest)) best turn

    through : (best : Option Insertion) → foldl (better cheaper ends) best (candidates_in p c k (route k rest)) ≡ look_through p c added saved k (route k rest) best
    unfolding candidates_in look_through foldl
    through best = go (has_room p (route k rest) c) (along best)
      where
        go : (b : Bool) → foldl (better cheaper ends) best (positions p c k (route k rest)) ≡ loop (suc (length (route k rest))) (look_at p c added saved k (route k rest)) best
            → foldl (better cheaper ends) best (cond b (positions p c k (route k rest)) []) ≡ cond b (loop (suc (length (route k rest))) (look_at p c added saved k (route k rest)) best) best
        go true h = h
        go false h = refl

  over : foldl (better cheaper ends) None (candidates p c rest) ≡ look_over p c added saved rest
  unfolding candidates look_over
  over =
      foldl_flat (better cheaper ends) (λ k. candidates_in p c k (route k rest)) None (range 0 (length rest))
      ∙ foldl_range (λ (t : Option Insertion) (k : ℕ). foldl (better cheaper ends) t (candidates_in p c k (route k rest))) None (length rest)
      ∙ loop_same (length rest) (λ k t. foldl (better cheaper ends) t (candidates_in p c k (route k rest))) (λ k. look_through p c added saved k (route k rest)) None through

  pub place_is : unless_cut added saved (look_over p c added saved rest) ≡ first_passing p rest c added saved (by_cost (candidates p c rest))
  place_is =
      sym (passing_found (by_cost (candidates p c rest))
      ∙ ap (unless_cut added saved) (find_sorted cheaper ends cheaper_ordering nowhere (candidates p c rest) ∙ over))
