-- What the pool keeps: steps and draws are bounded, and of plan and pool together every place occurs as often as before, every route is of a kind
-- that the given routes and every feasible route have. Assumes nothing.
use Prim.Native.Nat.{ℕ, suc, ◌+◌, ◌≤◌, ◌<◌}
use Rattle.std.specs.Prelude.{◌≡◌, true, length}
use Rattle.std.proofs.Math.Path.{ap}
use Rattle.std.proofs.Common.{subst, ◌∙◌, length-set}
use mathlib.Core.List.{List, [], ◌∷◌, ◌++◌, reverse}
use native.Mathlib.Omega.{arith}
use Rattle.ejection_made.specs.laws.All.{All, all_set}
use Rattle.ejection_made.specs.laws.Edits.{insert_at}
use Rattle.ejection_made.specs.laws.Counts.{count, count_append, count_reverse}
use Rattle.ejection_made.specs.models.Problem.{Problem}
use Rattle.ejection_made.specs.plan.Plan.{Plan, route, put_in, non_empty, occurs}
use Rattle.ejection_made.specs.plan.Routes.{occurs_set, length_put_in, occurs_put_in, all_put_in}
use Rattle.ejection_made.specs.local_search.Options.{Each, each_found}
use Rattle.ejection_made.specs.route_load.Feasible.{feasible}
use Rattle.ejection_made.specs.local_search.Rounds.{Tried}
use Rattle.ejection_made.specs.local_search.Reduced.{Bounded}
use Rattle.ejection_made.specs.insertion.Cheapest.{cheapest}
use Rattle.ejection_made.specs.insertion.Inserted.{insert_non_empty, Inserts, cheapest_found}
use Rattle.ejection_made.specs.ejection.declared.Ejection.{Ejection}
use Rattle.ejection_made.specs.ejection.Eject.{kept, eject, into, make_room, gone}
use Rattle.ejection_made.specs.ejection.Ejected.{Ejects, ejects_count, eject_found}
use Rattle.random_moves.specs.perturbation.Moves.{Moves, perturb_rule}
use Rattle.random_moves.specs.PerturbationMoveDraws.{perturb_draws}
use Rattle.ejection_pool.specs.Pool.{Allowance, State, turn, at_limit, run_pool}
use Rattle.ejection_pool.proofs.Turns.{Then, turn_rule, pool_rule}

-- ---- steps and draws of an attempt

module _ (given : Allowance) (p : Problem) where
  pub pool_bounded : (b left : ℕ) (s : State) → left + s.counts.steps ≤ b → Bounded b s.counts → Bounded b (run_pool given p left s).counts
  unfolding at_limit
  pool_bounded b left s le bd =
      pool_rule given p I O
      (λ s i. limit s s.pool i.1)
      (λ left s i. turn_rule given p (Then (I left) O) s s.pool
      (λ _. i.1)
      (λ n lo hi same. record { steps_in = omega arith; draws_in = omega arith })
      (λ c rest x _ _. (omega arith, record { steps_in = omega arith; draws_in = omega arith }))
      (λ c rest failures e _ _ _. (
        omega arith,
        record { steps_in = omega arith; draws_in = omega (arith, perturb_draws p given.tape (record { routes = make_room s.routes c e; draws = s.counts.draws })) },
      )))
      left s (le, bd)
    where
      I : ℕ → State → Type 0
      I left s = (left + s.counts.steps ≤ b) × Bounded b s.counts

      O : Tried → Type 0
      O t = Bounded b t.counts

      limit : (s : State) (pool : List ℕ) → Bounded b s.counts → Bounded b (at_limit s pool).counts
      limit s [] h = h
      limit s (c ∷ rest) h = h

-- ---- plan and pool of an attempt

-- against the plan before: the routes and the pool are what is made of all its routes but one
pub record Placing (G : List ℕ → Type 0) (before routes : Plan) (pool : List ℕ) : Type 0 where
  pub number : suc (length routes) ≡ length before
  pub places : (c : ℕ) → occurs c routes + count c pool ≡ occurs c before
  pub kinds : All G routes

module _ (p : Problem) (G : List ℕ → Type 0) (pass : (r : List ℕ) → feasible p r ≡ true → non_empty r ≡ true → G r) (before : Plan) where
  insert_keeps : (routes : Plan) (c : ℕ) (rest : List ℕ) (k pos : ℕ) → k < length routes → feasible p (insert_at pos c (route k routes)) ≡ true
      → Placing G before routes (c ∷ rest) → Placing G before (put_in k pos c routes) rest
  unfolding count
  insert_keeps routes c rest k pos k-in f h =
      record {
        number = ap suc (length_put_in k pos c routes) ∙ h.number;
        places = λ s. omega (arith, occurs_put_in k pos c routes s k-in, h.places s);
        kinds = all_put_in k pos c routes (pass (insert_at pos c (route k routes)) f (insert_non_empty pos c (route k routes))) h.kinds;
      }

  pub eject_keeps : (routes : Plan) (c : ℕ) (rest : List ℕ) (e : Ejection) → Ejects p routes c e → Placing G before routes (c ∷ rest)
      → Placing G before (make_room routes c e) (reverse (gone routes e) ++ rest)
  unfolding make_room count
  eject_keeps routes c rest e x h =
      let r = route e.route routes in
      record {
        number = ap suc (length-set routes e.route (into routes c e)) ∙ h.number;
        places = λ s. omega (arith, occurs_set s routes e.route (into routes c e) x.inside.there, ejects_count p routes c e x s, count_append s (reverse (gone routes e)) rest, count_reverse s (gone routes e), h.places s);
        kinds = all_set e.route h.kinds (pass (into routes c e) x.feasible_with (insert_non_empty e.pos c (kept e.first e.second r)));
      }

  move_keeps : (pool : List ℕ) (routes x : Plan) → Moves G routes x → Placing G before routes pool → Placing G before x pool
  move_keeps pool routes x m h =
      record {
        number = ap suc m.number ∙ h.number;
        places = λ s. ap (λ (n : ℕ). n + count s pool) (m.places s) ∙ h.places s;
        kinds = m.kinds h.kinds;
      }

  abbrev pub Placed : Tried → Type 0
  Placed t = Each (λ x. Placing G before x []) t.plan

  -- a turn that goes on keeps it, and one that empties the pool ends with it
  pub turn_placing : (given : Allowance) (s : State) → Placing G before s.routes s.pool
      → Then (λ t. Placing G before t.routes t.pool) Placed (turn given p s s.pool)
  turn_placing given s h =
      turn_rule given p (Then (λ t. Placing G before t.routes t.pool) Placed) s s.pool
      (λ e. subst (Placing G before s.routes) e h)
      (λ n _ _ _. tt)
      (λ c rest x e f.
      let found = each_found (Inserts p s.routes c) (cheapest p s.routes c) f (cheapest_found p s.routes c) in
      insert_keeps s.routes c rest x.route x.pos found.there found.feasible_with (subst (Placing G before s.routes) e h))
      (λ c rest failures x e _ f.
      perturb_rule p given.tape G pass (λ r. Placing G before r (reverse (gone s.routes x) ++ rest)) (move_keeps (reverse (gone s.routes x) ++ rest))
      (record { routes = make_room s.routes c x; draws = s.counts.draws })
      (eject_keeps s.routes c rest x (each_found (Ejects p s.routes c) (eject p s.routes c failures) f (eject_found p s.routes c failures)) (subst (Placing G before s.routes) e h)))

  pub pool_keeps : (given : Allowance) (left : ℕ) (s : State) → Placing G before s.routes s.pool → Placed (run_pool given p left s)
  unfolding at_limit
  pool_keeps given left s h =
      pool_rule given p (λ left s. Placing G before s.routes s.pool) Placed (λ s h. limit s s.pool h) (λ left s h. turn_placing given s h) left s h
    where
      limit : (s : State) (pool : List ℕ) → Placing G before s.routes pool → Placed (at_limit s pool)
      limit s [] h = h
      limit s (c ∷ rest) h = tt
