-- Demand 3: for every problem, first slices and list of calls, the claim holds of the replies. The idea: `Reached` holds of the first slices and
-- is kept by every call, accepted or refused; what a call adds to the steps is bounded by its own limit and the first plan's routes.
-- Assumes nothing.
use Prim.Native.Nat.{ℕ, zero, suc, ◌+◌, ◌*◌, ◌-◌, ◌/◌, ◌≤◌}
use mathlib.Core.Path.{◌≡◌, refl, sym, ap, subst, ◌∙◌}
use mathlib.Core.Logic.{◌⊎◌, inl, inr}
use mathlib.Core.Bool.{true, false≢true}
use mathlib.Core.List.{List, [], ◌∷◌, Memᴰ}
use Rattle.std.specs.Prelude.{Option, None, Some}
use native.Mathlib.Nat.{le_refl, le_trans, mul-le-mul_left, add-mul, mul_comm, mul-div_cancel}
use native.Mathlib.Omega.{arith}
use lib.ListN.{length, replicate, length-map}
use Rattle.lateness_bound.specs.laws.All.{All, all_nil, all_cons, all_append}
use Rattle.lateness_bound.specs.laws.Keeps.{keep_passes, all_keep}
use Rattle.lateness_bound.specs.laws.Counts.{count}
use Rattle.lateness_bound.specs.models.Problem.{Problem}
use Rattle.minimization.specs.plan.Plan.{Plan, Slices, flat, lengths_of, padded, written, non_empty, drop_empty, occurs}
use Rattle.minimization.specs.plan.Slices.{length_split, flat_split_all}
use Rattle.minimization.specs.plan.Dropped.{length_padded, drop_empty_padded, split_written, total_written}
use Rattle.minimization.specs.route_load.Feasible.{Sound}
use Rattle.minimization.specs.route_load.RouteLaws.{feasible_sound}
use Rattle.minimization.specs.local_search.Rounds.{Result}
use Rattle.minimization.specs.local_search.Reduced.{triangle, triangle_is, triangle_mono}
use Rattle.minimization.specs.ejection_pool.Pool.{Allowance}
use Rattle.minimization.specs.Minimize.{minimize_routes}
use Rattle.minimization.specs.Minimized.{Minimized, minimize_keeps}
use Rattle.minimization.specs.Falls.{minimize_falls}
use Rattle.elimination_moves.specs.Eliminate.{eliminate_routes}
use Rattle.elimination_moves.specs.Eliminated.{Eliminated, eliminate_keeps}
use Rattle.entry.specs.declared.Work.{Work}
use Rattle.entry.specs.Table.{refusal}
use Rattle.entry.specs.Given.{entry, minimise_inputs, eliminate_inputs}
use Rattle.entry.proofs.StopsLaws.{distinct_same, stops_distinct, distinct_stops}
use Rattle.entry.proofs.EntryLaws.{entry_first, entered, enter}
use Rattle.planner.specs.Calls.{refused, Reply, plan_in, reply, public_minimise, public_eliminate}
use Rattle.planner.specs.Run.{Call, minimise, eliminate, call, run, counts_of, steps, draws, granted, limits, routes_in, Along, along_nil, along_cons, Cheaper, Kept, Demand, Claim}

-- ---- the slices that a call leaves

module _ (n : ℕ) (plan : Plan) where
  written_places : (c : ℕ) → occurs c (plan_in (written n plan)) ≡ occurs c plan
  written_places c = ap (count c) (flat_split_all (written n plan).lengths (written n plan).stops (total_written n plan))

  written_routes : routes_in (written n plan) ≡ drop_empty plan
  written_routes = ap drop_empty (split_written n plan) ∙ drop_empty_padded plan (n - length plan)

  written_kinds : (G : List ℕ → Type 0) → G [] → All G plan → All G (plan_in (written n plan))
  written_kinds G g a = rw (split_written n plan) (all_append a (empty (n - length plan)))
    where
      empty : (m : ℕ) → All G (replicate m [])
      empty zero = all_nil
      empty (suc m) = all_cons g (empty m)

all_mem : (P : List ℕ → Type 0) (l : Plan) → ((r : List ℕ) → Memᴰ r l → P r) → All P l
all_mem P [] f = all_nil
all_mem P (r ∷ l) f = all_cons (f r (Memᴰ.head refl)) (all_mem P l (λ q m. f q (Memᴰ.tail m)))

all_apply : {A : Type 0} {P Q : A → Type 0} {xs : List A} → All (λ x. P x → Q x) xs → All P xs → All Q xs
all_apply all_nil all_nil = all_nil
all_apply (all_cons f a) (all_cons p b) = all_cons (f p) (all_apply a b)

module _ (p : Problem) (first : Slices) where
  abbrev Origin : List ℕ → Type 0
  Origin r = Memᴰ r (plan_in first) ⊎ Sound p r

  -- of every route, an empty one too
  abbrev Kind : List ℕ → Type 0
  Kind r = non_empty r ≡ true → Origin r

  kind_empty : Kind []
  unfolding non_empty
  kind_empty h = absurd (false≢true h)

  n : ℕ
  n = length (routes_in first)

  -- slices that calls have come to
  record Reached (s : Slices) : Type 0 where
    places : (c : ℕ) → occurs c (plan_in s) ≡ occurs c (plan_in first)
    no_more : length (routes_in s) ≤ n
    kinds : All Kind (plan_in s)
    accepted : entry p s ≡ None

  reached_kept : (s : Slices) → Reached s → Kept p first s
  unfolding n
  reached_kept s h =
      record {
        places = h.places;
        no_more = h.no_more;
        origins = all_apply (all_keep non_empty h.kinds) (keep_passes non_empty (plan_in s));
        accepted = h.accepted;
      }

  -- what one call adds
  record After (s : Slices) (c : Call) (r : Reply) : Type 0 where
    reached : Reached r.slices
    steps_in : (counts_of r.answer).steps ≤ granted c r.answer * triangle n
    draws_in : (counts_of r.answer).draws ≤ 500 * (counts_of r.answer).steps
    cheaper : Cheaper p s c r

  -- the slices of a plan that has the same places, no more routes, and routes of the kind
  reached_written : (s : Slices) (plan : Plan) → Reached s → ((c : ℕ) → occurs c plan ≡ occurs c (plan_in s)) → All Kind plan
      → length (drop_empty plan) ≤ length (routes_in s) → length plan ≤ length (plan_in s) → Reached (written (length s.lengths) plan)
  reached_written s plan h places kinds no_more no_longer =
      let m = length s.lengths in
      let e = entered p s h.accepted in
      let short : length plan ≤ m = subst (λ (k : ℕ). length plan ≤ k) (length_split s.lengths s.stops) no_longer in
      let size : length (padded m (lengths_of plan)) ≡ m = length_padded m (lengths_of plan) (rw (length-map plan length) short) in
      record {
        places = λ c. written_places m plan c ∙ places c ∙ h.places c;
        no_more = rw (written_routes m plan) (le_trans no_more h.no_more);
        kinds = written_kinds m plan Kind kind_empty kinds;
        accepted = enter p (written m plan) (record {
          problem_valid = e.problem_valid;
          few_routes = rw size e.few_routes;
          sum = total_written m plan;
          stops_valid = distinct_stops p (flat plan) (distinct_same p (flat plan) s.stops
              (λ c. places c ∙ ap (count c) (flat_split_all s.lengths s.stops e.sum)) (stops_distinct p s.stops e.stops_valid));
        });
      }

  -- a refused call
  after_refused : (s : Slices) (c : Call) (k : ℕ) → Reached s → Cheaper p s c (record { answer = refused k; slices = s }) → After s c (record { answer = refused k; slices = s })
  after_refused s c k h e = record { reached = h; steps_in = omega arith; draws_in = omega arith; cheaper = e }

  after_minimise : (s : Slices) (given : Allowance) (w : Work) → Reached s → After s (minimise given w) (public_minimise p s given w)
  unfolding public_minimise reply
  after_minimise s given w h = go (refusal (minimise_inputs p s given.tape given.limit w))
    where
      x : Result
      x = minimize_routes given p (plan_in s)

      m : Minimized given Kind (plan_in s) x
      m = minimize_keeps given p Kind (λ r f _ _. inr (feasible_sound p r f)) (plan_in s) h.kinds

      size : ℕ
      size = length s.lengths

      go : (o : Option ℕ) → After s (minimise given w) (reply s o x)
      go (Some k) = after_refused s (minimise given w) k h (λ l. absurd (omega (arith, l)))
      go None =
          record {
            reached = reached_written s x.plan h m.places m.kinds m.no_more m.no_longer;
            steps_in = le_trans m.counts_in.steps_in (mul-le-mul_left given.limit (triangle_mono (length (routes_in s)) n h.no_more));
            draws_in = m.counts_in.draws_in;
            cheaper = rw (written_routes size x.plan) (minimize_falls given p (plan_in s));
          }

  after_eliminate : (s : Slices) (w : Work) → Reached s → After s (eliminate w) (public_eliminate p s w)
  unfolding public_eliminate reply
  after_eliminate s w h = go (refusal (eliminate_inputs p s w))
    where
      x : Plan
      x = eliminate_routes p (plan_in s)

      m : Eliminated Kind (plan_in s) x
      m = eliminate_keeps p Kind (λ r f _. inr (feasible_sound p r f)) (plan_in s) h.kinds

      go : (o : Option ℕ) → After s (eliminate w) (reply s o (record { plan = x; counts = record { steps = 0; draws = 0 } }))
      go (Some k) = after_refused s (eliminate w) k h tt
      go None =
          record {
            reached = reached_written s x h m.places m.kinds m.no_more m.no_longer;
            steps_in = omega arith;
            draws_in = omega arith;
            cheaper = tt;
          }

  after_call : (s : Slices) (c : Call) → Reached s → After s c (call p s c)
  unfolding call
  after_call s (minimise given w) h = after_minimise s given w h
  after_call s (eliminate w) h = after_eliminate s w h

  -- ---- the list

  record From (s : Slices) (calls : List Call) (replies : List Reply) : Type 0 where
    kept : All (λ r. Kept p first r.slices) replies
    few_steps : steps replies ≤ limits calls replies * triangle n
    few_draws : draws replies ≤ 500 * steps replies
    cheaper : Along (Cheaper p) s calls replies

  from : (s : Slices) (calls : List Call) → Reached s → From s calls (run p s calls)
  unfolding run steps draws limits
  from s [] h = record { kept = all_nil; few_steps = omega arith; few_draws = omega arith; cheaper = along_nil }
  from s (c ∷ calls) h =
      let r = call p s c in
      let a = after_call s c h in
      let f = from r.slices calls a.reached in
      let more = add-mul (granted c r.answer) (limits calls (run p r.slices calls)) (triangle n) in
      record {
        kept = all_cons (reached_kept r.slices a.reached) f.kept;
        few_steps = omega (arith, a.steps_in, f.few_steps, more);
        few_draws = omega (arith, a.draws_in, f.few_draws);
        cheaper = along_cons a.cheaper f.cheaper;
      }

  reached_first : entry p first ≡ None → Reached first
  unfolding n
  reached_first e = record { places = λ c. refl; no_more = le_refl (length (routes_in first)); kinds = all_mem Kind (plan_in first) (λ r m _. inl m); accepted = e }

  half : (k : ℕ) → triangle k ≡ k * (k + 1) / 2
  half k = sym (ap (λ (m : ℕ). m / 2) (sym (triangle_is k) ∙ mul_comm 2 (triangle k)) ∙ mul-div_cancel (triangle k) (omega arith))

  demanded : (calls : List Call) → entry p first ≡ None → Demand p first calls (run p first calls)
  unfolding n
  demanded calls e =
      let f = from first calls (reached_first e) in
      record { kept = f.kept; few_steps = rw (← half (length (routes_in first))) f.few_steps; few_draws = f.few_draws; cheaper = f.cheaper }

  -- ---- refused whole

  refused_call : (k : ℕ) → entry p first ≡ Some k → (c : Call) → call p first c ≡ record { answer = refused k; slices = first }
  unfolding call public_minimise public_eliminate reply
  refused_call k e (minimise given w) = rw (entry_first p first (Some given.tape) (Some given.limit) (Some w) k e)
  refused_call k e (eliminate w) = rw (entry_first p first None None (Some w) k e)

  refused_run : (k : ℕ) → entry p first ≡ Some k → (calls : List Call) → All (λ r. r ≡ record { answer = refused k; slices = first }) (run p first calls)
  unfolding run
  refused_run k e [] = all_nil
  refused_run k e (c ∷ calls) = rw (refused_call k e c) (all_cons refl (refused_run k e calls))

-- For every problem, first slices and list of calls, refused ones included, with work cells of any number.
pub demand_3 : (p : Problem) (first : Slices) (calls : List Call) → Claim p first calls (run p first calls)
demand_3 p first calls = record { by_the_steps = refl; refused_whole = λ k e. refused_run p first k e calls; demand = demanded p first calls }
