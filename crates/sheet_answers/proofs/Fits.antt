-- Every text prints at most 6,000 bytes: a sheet that was read has at most 64 routes and 64 stops, and no call leaves more. Assumes nothing.
use Prim.Native.Nat.{ℕ, ◌≤◌}
use mathlib.Core.Path.{◌≡◌, refl, ap}
use mathlib.Core.List.{List, [], ◌∷◌}
use Rattle.std.specs.Prelude.{Option, None, Some}
use native.Mathlib.Nat.{le_refl}
use native.Mathlib.Omega.{arith}
use lib.ListN.{length, take, length-take, length-map}
use Rattle.planner.specs.laws.All.{All, all_nil, all_cons}
use Rattle.planner.specs.laws.Counts.{same_length}
use Rattle.planner.specs.models.Problem.{Problem}
use Rattle.planner.specs.plan.Plan.{Plan, Slices, flat, total, lengths_of, occurs}
use Rattle.planner.specs.plan.Slices.{length_split, flat_split, total_lengths, lengths_take, offset_within}
use Rattle.planner.specs.plan.Dropped.{length_padded}
use Rattle.planner.specs.local_search.declared.rounds.Counts.{Counts}
use Rattle.planner.specs.local_search.declared.rounds.Reduction.{Reduction}
use Rattle.planner.specs.local_search.Rounds.{Result}
use Rattle.planner.specs.ejection_pool.Pool.{Allowance}
use Rattle.planner.specs.ejection_pool.Running.{allowance}
use Rattle.planner.specs.minimization.Minimize.{minimize_routes}
use Rattle.planner.specs.minimization.Minimized.{minimize_keeps}
use Rattle.planner.specs.elimination_moves.Eliminate.{eliminate_routes}
use Rattle.planner.specs.elimination_moves.Eliminated.{eliminate_keeps}
use Rattle.planner.specs.entry.declared.Work.{Work}
use Rattle.planner.specs.entry.Table.{refusal}
use Rattle.planner.specs.entry.Given.{minimise_inputs, eliminate_inputs}
use Rattle.planner.specs.Calls.{Answer, refused, answered, plan_in, reply, public_minimise, public_eliminate}
use Rattle.sheet_laws.specs.sheet_text.Text.{Reading, refused as refused-reading, got}
use Rattle.sheet_laws.specs.sheet_format.Form.{Sheet, sheet}
use Rattle.sheet_laws.proofs.Read.{sheet_holds}
use Rattle.sheet_laws.specs.ListingBoundLaws.{listing_fits, refusal_fits}
use Rattle.sheet_answers.specs.Printed.{work, unless_refused, eliminated, planned, printed_of, printed}

-- the stops of some of a plan's routes are no more than all
pub flat_take : (k : ℕ) (plan : Plan) → length (flat (take k plan)) ≤ length (flat plan)
flat_take k plan =
    omega (arith, total_lengths (take k plan), total_lengths plan, ap total (lengths_take plan k), offset_within (lengths_of plan) k)

-- the stops of the plan in two slices are no more than the second slice has
flat_few : (s : Slices) → length (flat (plan_in s)) ≤ length s.stops
flat_few s = omega (arith, ap length (flat_split s.lengths s.stops), length-take (total s.lengths) s.stops)

-- no more routes and no more stops
pub record Fewer (s t : Slices) : Type 0 where
  pub routes : length t.lengths ≤ length s.lengths
  pub stops : length t.stops ≤ length s.stops

reply_fewer : (s : Slices) (o : Option ℕ) (x : Result) → length x.plan ≤ length (plan_in s) → ((c : ℕ) → occurs c x.plan ≡ occurs c (plan_in s)) → Fewer s (reply s o x).slices
unfolding reply
reply_fewer s (Some k) x l e = record { routes = le_refl (length s.lengths); stops = le_refl (length s.stops) }
reply_fewer s None x l e =
    let n = length s.lengths in
    let short : length (lengths_of x.plan) ≤ n = omega (arith, l, length-map x.plan length, length_split s.lengths s.stops) in
    record {
      routes = omega (arith, length_padded n (lengths_of x.plan) short);
      stops = omega (arith, same_length (flat x.plan) (flat (plan_in s)) e, flat_few s);
    }

-- of every route nothing is asked
pub every : (plan : Plan) → All (λ r. Unit {0}) plan
every [] = all_nil
every (r ∷ rs) = all_cons tt (every rs)

module _ (p : Problem) (s : Slices) where
  minimise_fewer : (given : Allowance) (w : Work) → Fewer s (public_minimise p s given w).slices
  unfolding public_minimise
  minimise_fewer given w =
      let m = minimize_keeps given p (λ r. Unit {0}) (λ r f g. tt) (plan_in s) (every (plan_in s)) in
      reply_fewer s (refusal (minimise_inputs p s given.tape given.limit w)) (minimize_routes given p (plan_in s)) m.no_longer m.places

  eliminate_fewer : (w : Work) → Fewer s (public_eliminate p s w).slices
  unfolding public_eliminate
  eliminate_fewer w =
      let m = eliminate_keeps p (λ r. Unit {0}) (λ r f. tt) (plan_in s) (every (plan_in s)) in
      reply_fewer s (refusal (eliminate_inputs p s w)) (record { plan = eliminate_routes p (plan_in s); counts = record { steps = 0; draws = 0 } }) m.no_longer m.places

unless_fits : (a : Answer Reduction) (f : Reduction → List ℕ) → ((d : Reduction) → length (f d) ≤ 6000) → length (unless_refused a f) ≤ 6000
unless_fits (refused n) f h = refusal_fits _
unless_fits (answered d) f h = h d

eliminated_fits : (p : Problem) (s : Slices) (counts : Counts) (given : ℕ) → length s.lengths ≤ 64 → length s.stops ≤ 64 → length (eliminated p s counts given) ≤ 6000
unfolding eliminated
eliminated_fits p s counts given r t =
    let e = public_eliminate p s work in
    let f = eliminate_fewer p s work in
    unless_fits e.answer _
    (λ d. listing_fits p (take d.routes (plan_in e.slices)) _ _
    (omega (arith, length-take d.routes (plan_in e.slices), length_split e.slices.lengths e.slices.stops, f.routes, r))
    (omega (arith, flat_take d.routes (plan_in e.slices), flat_few e.slices, f.stops, t)))

planned_fits : (x : Sheet) → length x.plan.lengths ≤ 64 → length x.plan.stops ≤ 64 → length (planned x) ≤ 6000
unfolding planned
planned_fits x r t =
    let given = allowance x.run.limit x.run.clock x.tape in
    let m = public_minimise x.problem x.plan given work in
    let f = minimise_fewer x.problem x.plan given work in
    unless_fits m.answer _
    (λ d. eliminated_fits x.problem m.slices _ _ (omega (arith, f.routes, r)) (omega (arith, f.stops, t)))

-- "The output buffer is large enough": whatever the text
pub printed_fits : (s : List ℕ) → length (printed s) ≤ 6000
unfolding printed
printed_fits s = go (sheet s 0) refl
  where
    go : (r : Reading Sheet) → sheet s 0 ≡ r → length (printed_of r) ≤ 6000
    go (refused-reading k) e = refusal_fits k
    go (got x i) e =
        let h = sheet_holds s 0 x i e in
        planned_fits x h.few_routes h.few_stops
