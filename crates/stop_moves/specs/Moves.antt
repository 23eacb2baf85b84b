-- The stops of a route moved one after the other: what the code keeps between them, and that the place found lies in the plan and does not
-- reach the cut. Assumes nothing.
use Rattle.std.specs.Prelude.{ℕ, suc, ◌+◌, ◌≤◌, ◌≡◌, false, length, Float}
use native.Mathlib.Omega.{arith}
use Rattle.std.proofs.Math.Path.{refl, ap}
use Rattle.std.proofs.Common.{sym, ◌∙◌, subst}
use mathlib.Core.List.{List, [], ◌∷◌}
use Rattle.std.specs.Prelude.{Option, None, Some}
use Rattle.std.specs.Float.Ieee.{le}
use Rattle.reinsertion.specs.floats.Binary64.{◌⊕◌}
use Rattle.reinsertion.specs.laws.Loops.{loop_rule, cond_rule, foldl}
use Rattle.reinsertion.specs.laws.All.{All}
use Rattle.reinsertion.specs.models.Problem.{Problem, Stops}
use Rattle.reinsertion.specs.plan.Plan.{Plan, route, total, HasPosition, put_in}
use Rattle.reinsertion.specs.plan.Given.{plan_of}
use Rattle.reinsertion.specs.plan.declared.routes.Routes.{Routes}
use Rattle.reinsertion.specs.local_search.Options.{bind, then_some, Each}
use Rattle.reinsertion.specs.route_cost.declared.Insertion.{Insertion}
use Rattle.reinsertion.specs.route_load.Feasible.{has_room}
use Rattle.reinsertion.specs.reinsertion_worth.Worth.{insertion_worth}
use Rattle.reinsertion.specs.reinsertion_candidates.Candidates.{candidates, by_cost, first_passing}
use Rattle.elimination_moves.specs.Eliminate.{Moved, move_to, move_stop}
use Rattle.reinsertion.specs.reinsertion_candidates.Place.{counts, comes_first, settles, look_at, look_through, look_over, unless_cut}
use Rattle.reinsertion.specs.ReinsertionCandidatesPlaceIs.{place_is}

-- the other routes so far, and what was added to their worth
abbrev pub so_far : Plan → Float → Moved
so_far rest added = record { rest = rest; added = added }

-- both, as the code keeps them; none once a stop has no place
abbrev pub held_by : Option Float → Plan → Option Moved
held_by None rest = None
held_by (Some added) rest = Some (so_far rest added)

-- the rest of the loop `for c in moving`
unfoldable pub move_on : Problem → Float → Option Moved → List ℕ → Option Moved
move_on p saved m stops = foldl (λ m c. bind m (λ n. move_stop p saved n c)) m stops

module _ (p : Problem) (saved : Float) where
  pub move_on_more : (m : Moved) (c : ℕ) (stops : List ℕ) → move_on p saved (Some m) (c ∷ stops) ≡ move_on p saved (move_stop p saved m c) stops
  unfolding move_on foldl bind
  move_on_more m c stops = refl

  pub move_on_none : (stops : List ℕ) → move_on p saved None stops ≡ None
  unfolding move_on foldl bind
  move_on_none [] = refl
  move_on_none (c ∷ stops) = move_on_none stops

  pub move_on_end : (m : Option Moved) → move_on p saved m [] ≡ m
  unfolding move_on foldl
  move_on_end m = refl

-- what the code asks while stops are left to be moved: there is room for each of them
pub record Waiting (p : Problem) (lent : Routes) (left : List ℕ) : Type 0 where
  pub routes : All (Stops p.roads.size) (plan_of lent)
  pub few : total lent.lengths.now + length left ≤ 256
  pub free : total lent.lengths.now + length left ≤ length lent.stops.now
  pub places : Stops p.roads.size left

-- lent routes with a plan of k stops
pub record Grown (n k : ℕ) (lent : Routes) : Type 0 where
  pub sum : total lent.lengths.now ≡ k
  pub routes : All (Stops n) (plan_of lent)

-- so they are left where each stop has found a place
abbrev pub Kept : ℕ → Option Float → ℕ → Routes → Type 0
Kept n None k lent = Unit
Kept n (Some added) k lent = Grown n k lent

-- ---- the place found

module _ (p : Problem) (rest : Plan) (c : ℕ) (added saved : Float) where
  -- it is a position of the plan
  abbrev Inside : Option Insertion → Type 0
  Inside = Each (λ x. HasPosition rest x.route x.pos)

  over_inside : Inside (look_over p c added saved rest)
  unfolding look_over look_through look_at
  over_inside =
      loop_rule (λ _. Inside) (length rest) (λ k. look_through p c added saved k (route k rest)) (λ k best k-in h.
      cond_rule Inside (has_room p (route k rest) c)
      (λ _. loop_rule (λ _. Inside) (suc (length (route k rest))) (look_at p c added saved k (route k rest)) (λ pos found pos-in g.
      let x = insertion_worth p (route k rest) pos c in
      cond_rule Inside (counts p x)
      (λ _. cond_rule Inside (comes_first x found)
      (λ _. cond_rule Inside (settles p c added saved (route k rest) pos x) (λ _. record { there = k-in; within = omega arith }) (λ _. g))
      (λ _. g))
      (λ _. g)) h)
      (λ _. h)) tt

  uncut_inside : (o : Option Insertion) → Inside o → Inside (unless_cut added saved o)
  unfolding unless_cut
  uncut_inside None h = tt
  uncut_inside (Some x) h = cond_rule Inside (le saved (added ⊕ x.cost)) {x = None} {y = Some x} (λ _. tt) (λ _. h)

  pub place_inside : (x : Insertion) → Some x ≡ first_passing p rest c added saved (by_cost (candidates p c rest)) → HasPosition rest x.route x.pos
  place_inside x e = subst Inside (place_is p rest c added saved ∙ sym e) (uncut_inside (look_over p c added saved rest) over_inside)

  -- and it does not reach the cut
  abbrev Below : Option Insertion → Type 0
  Below = Each (λ x. le saved (added ⊕ x.cost) ≡ false)

  below : (o : Option Insertion) → Below (unless_cut added saved o)
  unfolding unless_cut
  below None = tt
  below (Some x) = cond_rule Below (le saved (added ⊕ x.cost)) {x = None} {y = Some x} (λ _. tt) (λ e. e)

  pub place_below : (x : Insertion) → Some x ≡ first_passing p rest c added saved (by_cost (candidates p c rest)) → le saved (added ⊕ x.cost) ≡ false
  place_below x e = subst Below (place_is p rest c added saved ∙ sym e) (below (look_over p c added saved rest))

  -- c has no place; it goes to the place found
  pub move_nowhere : None ≡ first_passing p rest c added saved (by_cost (candidates p c rest)) → None ≡ move_stop p saved (so_far rest added) c
  unfolding move_stop bind
  move_nowhere e = ap (λ (o : Option Insertion). bind o (move_to saved c (so_far rest added))) e

  pub move_there : (x : Insertion) → Some x ≡ first_passing p rest c added saved (by_cost (candidates p c rest))
      → Some (record { rest = put_in x.route x.pos c rest; added = added ⊕ x.cost }) ≡ move_stop p saved (so_far rest added) c
  move_there x e = there ∙ ap (λ (o : Option Insertion). bind o (move_to saved c (so_far rest added))) e ∙ whole
    where
      there : Some (record { rest = put_in x.route x.pos c rest; added = added ⊕ x.cost }) ≡ bind (Some x) (move_to saved c (so_far rest added))
      there = unfold bind move_to then_some in rw (place_below x e)

      whole : bind (first_passing p rest c added saved (by_cost (candidates p c rest))) (move_to saved c (so_far rest added)) ≡ move_stop p saved (so_far rest added) c
      whole = unfold move_stop in refl
