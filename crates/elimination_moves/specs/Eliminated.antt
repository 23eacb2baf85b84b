-- What an attempt to move the stops of a route keeps, and what the search keeps: every place occurs as often as before, every route is of a kind
-- that the given routes and every feasible route have, and there are no more routes. Assumes nothing.
use Prim.Native.Nat.{ℕ, suc, ◌+◌, ◌*◌, ◌≤◌, ◌<◌}
use Rattle.std.specs.Prelude.{◌≡◌, true, Float}
use Rattle.std.proofs.Math.Path.{ap}
use Rattle.std.proofs.Common.{◌∙◌, arith}
use mathlib.Core.List.{List, [], ◌∷◌, map, flat_map}
use Rattle.std.specs.Prelude.{Option, Some}
use Rattle.std.proofs.Math.ListN.{length}
use Rattle.std.specs.Float.Ieee.{le}
use Rattle.reinsertion_candidates.specs.floats.Binary64.{◌⊕◌, 0f, is_finite}
use Rattle.reinsertion_candidates.specs.laws.All.{All, all_of, all_nil, all_cons, all_append}
use Rattle.reinsertion_candidates.specs.laws.Edits.{erase, length_erase, all_erase}
use Rattle.reinsertion_candidates.specs.laws.Keeps.{length_keep, all_keep}
use Rattle.reinsertion_candidates.specs.laws.Counts.{count}
use Rattle.reinsertion_candidates.specs.laws.Loops.{foldl, cond_rule}
use Rattle.reinsertion_candidates.specs.laws.Sorts.{range, all_range, all_sort_by, count_sort_by}
use Rattle.reinsertion_candidates.specs.models.Vehicle.{fixed_cost_in_distance}
use Rattle.reinsertion_candidates.specs.models.Problem.{Problem}
use Rattle.reinsertion_candidates.specs.plan.Plan.{Plan, route, non_empty, drop_empty, occurs}
use Rattle.reinsertion_candidates.specs.plan.Routes.{length_put_in, occurs_put_in, all_put_in, occurs_erase}
use Rattle.reinsertion_candidates.specs.plan.Dropped.{occurs_drop_empty}
use Rattle.reinsertion_candidates.specs.local_search.Options.{bind, Each, each_then_some, each_bind}
use Rattle.reinsertion_candidates.specs.route_cost.declared.Insertion.{Insertion}
use Rattle.reinsertion_candidates.specs.route_load.Feasible.{has_room, checked, feasible}
use Rattle.reinsertion_candidates.specs.route_load.RouteLaws.{has_room_fits}
use Rattle.reinsertion_candidates.specs.local_search.declared.rounds.Counts.{Counts}
use Rattle.reinsertion_candidates.specs.local_search.Rounds.{reduce}
use Rattle.reinsertion_candidates.specs.local_search.Reduced.{Better, Reduces, reduces_fewer, triangle, Ended, reduce_ended}
use Rattle.reinsertion_candidates.specs.reinsertion_worth.Worth.{worth}
use Rattle.reinsertion_candidates.specs.Candidates.{positions, candidates_in, candidates, nowhere, trial, first_passing}
use Rattle.elimination_moves.specs.Eliminate.{Moved, move_to, move_stop, moving, move_all, if_gained, without_route, attempt, eliminate_routes}

-- ---- properties of lists that are made of others

all_image : {A B : Type 0} (P : B → Type 0) (f : A → B) (xs : List A) → ((a : A) → P (f a)) → All P (map f xs)
all_image P f [] h = all_nil
all_image P f (x ∷ xs) h = all_cons (h x) (all_image P f xs h)

all_flat : {A B : Type 0} (P : B → Type 0) (Q : A → Type 0) (f : A → List B) {xs : List A} → ((a : A) → Q a → All P (f a)) → All Q xs → All P (flat_map f xs)
unfolding flat_map
all_flat P Q f h all_nil = all_nil
all_flat P Q f h (all_cons {x = x} q a) = all_append (h x q) (all_flat P Q f h a)

-- ---- one stop

-- a candidate is a position of a route of the plan that has room
record Candidate (p : Problem) (rest : Plan) (c : ℕ) (x : Insertion) : Type 0 where
  there : x.route < length rest
  room : has_room p (route x.route rest) c ≡ true

-- the one that is taken makes a feasible route
pub record Taken (p : Problem) (rest : Plan) (c : ℕ) (x : Insertion) : Type 0 where
  pub there : x.route < length rest
  pub feasible_with : feasible p (trial rest c x) ≡ true

module _ (p : Problem) (c : ℕ) (rest : Plan) where
  route_candidates : (k : ℕ) → k < length rest → All (Candidate p rest c) (candidates_in p c k (route k rest))
  unfolding candidates_in positions
  route_candidates k k-in =
      cond_rule (All (Candidate p rest c)) (has_room p (route k rest) c)
      (λ e. all_keep _ (all_image (Candidate p rest c) _ (range 0 (suc (length (route k rest)))) (λ pos. record { there = k-in; room = e })))
      (λ _. all_nil)

  all_candidates : All (Candidate p rest c) (candidates p c rest)
  unfolding candidates
  all_candidates =
      all_flat (Candidate p rest c) (λ k. k < length rest) (λ k. candidates_in p c k (route k rest)) route_candidates
      (all_range 0 (length rest) (length rest) (omega arith))

  passing : (x : Insertion) → Candidate p rest c x → checked p (trial rest c x) ≡ true → feasible p (trial rest c x) ≡ true
  unfolding feasible
  passing x h e = rw (has_room_fits p x.pos c (route x.route rest), h.room) e

  first_taken : (added saved : Float) {xs : List Insertion} → All (Candidate p rest c) xs → Each (Taken p rest c) (first_passing p rest c added saved xs)
  unfolding first_passing
  first_taken added saved all_nil = tt
  first_taken added saved (all_cons {x = x} {xs = xs} h a) =
      cond_rule (Each (Taken p rest c)) (le saved (added ⊕ x.cost)) (λ _. tt)
      (λ _. cond_rule (Each (Taken p rest c)) (checked p (trial rest c x)) {x = Some x} {y = first_passing p rest c added saved xs}
      (λ e. record { there = h.there; feasible_with = passing x h e })
      (λ _. first_taken added saved a))

-- ---- one route

moving_count : (p : Problem) (s : ℕ) (r : List ℕ) → count s (moving p r) ≡ count s r
unfolding moving
moving_count p s r = count_sort_by _ s r

module _ (p : Problem) (G : List ℕ → Type 0) (pass : (r : List ℕ) → feasible p r ≡ true → G r) (before : Plan) where
  -- the routes so far against the plan before, where some stops are still to be moved
  record Moving (stops : List ℕ) (m : Moved) : Type 0 where
    number : suc (length m.rest) ≡ length before
    places : (s : ℕ) → occurs s m.rest + count s stops ≡ occurs s before
    kinds : All G m.rest

  move_stop_keeps : (saved : Float) (c : ℕ) (stops : List ℕ) (m : Moved) → Moving (c ∷ stops) m → Each (Moving stops) (move_stop p saved m c)
  unfolding move_stop move_to count
  move_stop_keeps saved c stops m h =
      each_bind (Taken p m.rest c) (Moving stops) _ (move_to saved c m)
      (λ x t. each_then_some (Moving stops) _ _ (λ _. record {
        number = ap suc (length_put_in x.route x.pos c m.rest) ∙ h.number;
        places = λ s. omega (arith, occurs_put_in x.route x.pos c m.rest s t.there, h.places s);
        kinds = all_put_in x.route x.pos c m.rest (pass (trial m.rest c x) t.feasible_with) h.kinds;
      }))
      (first_taken p c m.rest m.added saved (all_sort_by _ nowhere (all_candidates p c m.rest)))

  move_all_keeps : (saved : Float) (stops : List ℕ) (o : Option Moved) → Each (Moving stops) o → Each (Moving []) (foldl (λ m c. bind m (λ n. move_stop p saved n c)) o stops)
  unfolding foldl
  move_all_keeps saved [] o h = h
  move_all_keeps saved (c ∷ stops) o h =
      move_all_keeps saved stops (bind o (λ n. move_stop p saved n c)) (each_bind (Moving (c ∷ stops)) (Moving stops) o (λ n. move_stop p saved n c) (move_stop_keeps saved c stops) h)

  pub without_better : (r : ℕ) → r < length before → All G before → Each (Better G before) (without_route p before r)
  unfolding without_route move_all if_gained count
  without_better r r-in g =
      let saved = worth p (route r before) ⊕ fixed_cost_in_distance p.vehicle in
      cond_rule (Each (Better G before)) (is_finite saved)
      (λ _. each_bind (Moving []) (Better G before) _ (if_gained p saved)
      (λ m h. each_then_some (Better G before) _ m.rest (λ _. record { fewer = h.number; places = λ s. omega (arith, h.places s); kinds = h.kinds }))
      (move_all_keeps saved (moving p (route r before)) (Some (record { rest = erase r before; added = 0f })) (record {
        number = length_erase r before r-in;
        places = λ s. omega (arith, occurs_erase s r before r-in, moving_count p s (route r before));
        kinds = all_erase r g;
      })))
      (λ _. tt)

-- the laws of the rounds speak of this search, which counts no steps
pub attempt_reduces : (p : Problem) → Reduces (attempt p) 0
unfolding attempt
attempt_reduces p = record {
  better = λ routes r n r-in. without_better p (λ q. Unit) (λ q _. tt) routes r r-in (all_of routes [] (λ i h. tt));
  bounded = λ b routes r n l d. record { steps_in = omega arith; draws_in = d };
}

-- an accepted attempt leaves fewer routes, so `rounds_enough` speaks of this search: the bound on the rounds never cuts it short
pub attempt_fewer : (p : Problem) (routes : Plan) (r : ℕ) (n : Counts) → r < length routes → Each (λ x. length x < length routes) (attempt p routes r n).plan
attempt_fewer p = reduces_fewer (attempt p) 0 (attempt_reduces p)

-- ---- the search

pub record Eliminated (G : List ℕ → Type 0) (plan x : Plan) : Type 0 where
  pub places : (c : ℕ) → occurs c x ≡ occurs c plan
  pub kinds : All G x
  pub no_more : length (drop_empty x) ≤ length (drop_empty plan)
  pub no_longer : length x ≤ length plan

pub eliminate_keeps : (p : Problem) (G : List ℕ → Type 0) → ((r : List ℕ) → feasible p r ≡ true → G r) → (plan : Plan) → All G plan
    → Eliminated G plan (eliminate_routes p plan)
unfolding eliminate_routes attempt
eliminate_keeps p G pass plan g =
    record {
      places = λ s. e.places s ∙ occurs_drop_empty s plan;
      kinds = e.kinds;
      no_more = omega (arith, length_keep non_empty (reduce (attempt p) plan).plan, e.no_more);
      no_longer = omega (arith, length_keep non_empty plan, e.no_more);
    }
  where
    better : (routes : Plan) (r : ℕ) (n : Counts) → r < length routes → All G routes → Each (Better G routes) (attempt p routes r n).plan
    better routes r n r-in a = without_better p G pass routes r r-in a

    e : Ended (attempt p) 0 G better (attempt_reduces p).bounded (drop_empty plan) (0 * triangle (length (drop_empty plan))) (reduce (attempt p) plan)
    e = reduce_ended (attempt p) 0 G better (attempt_reduces p).bounded plan g
