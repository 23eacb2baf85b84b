-- The two calls of a sheet, one after the other, and what may be relied on where eliminate answers. Assumes nothing.
use Prim.Native.Nat.{ℕ, zero, suc, ◌*◌, ◌^◌, ◌≤◌, ◌<◌}
use mathlib.Core.Path.{◌≡◌, refl, sym, ap, subst, ◌∙◌}
use mathlib.Core.List.{List, [], ◌∷◌}
use Rattle.std.specs.Prelude.{Option, None, Some, Result, Ok, Err}
use native.Mathlib.Nat.{mul-le-mul_right}
use native.Mathlib.Omega.{arith}
use lib.ListN.{length, take, drop, length-take}
use lib.Dec.{T}
use lib.Ieee.{Float, binary64, in_unsigned}
use Rattle.planner.specs.laws.All.{All, all_of, all_map, all_take, all_head}
use Rattle.planner.specs.models.Problem.{Problem, matrix, depot, Stops, Demands}
use Rattle.planner.specs.plan.Plan.{Plan, Slices, Lent, split, flat}
use Rattle.planner.specs.plan.Slices.{length_split, flat_split_all, offset_within}
use Rattle.planner.specs.local_search.Planned.{planned_stops}
use Rattle.planner.specs.local_search.declared.rounds.Counts.{Counts}
use Rattle.planner.specs.local_search.declared.rounds.Reduction.{Reduction}
use Rattle.planner.specs.elimination_moves.Eliminate.{eliminate_routes}
use Rattle.planner.specs.elimination_moves.Eliminated.{eliminate_keeps}
use Rattle.planner.specs.ejection_pool.Running.{allowance}
use Rattle.planner.specs.entry.Table.{too_few, table, first_applying, refusal}
use Rattle.planner.specs.entry.Given.{entry, eliminate_inputs}
use Rattle.planner.specs.EntryEntryLaws.{own_rows}
use Rattle.planner.specs.EntryAdmittedLaws.{Accepted, eliminate_accepted}
use Rattle.planner.specs.Calls.{refused, answered, Reply, plan_in, reply, public_minimise, public_eliminate}
use Rattle.planner.specs.Run.{Call, eliminate, call, run}
use Rattle.planner.specs.entry.refusal.declared.Refusal.{Refusal}
use Rattle.planner.specs.entry.refusal.Number.{number}
use Rattle.planner.specs.Told.{slices_of, work_of, reply_of}
use Rattle.planner.proofs.Demand3.{demand_3}
use Rattle.sheet_laws.specs.sheet_text.Text.{refused as refused-reading, got}
use Rattle.sheet_laws.specs.sheet_format.Form.{Sheet, sheet}
use Rattle.sheet_laws.specs.route_cost.Route.{route_distance}
use Rattle.sheet_laws.specs.listing.Listing.{Prints, listing, refusal_line}
use Rattle.sheet_laws.specs.listing.Written.{Room, Written}
use Rattle.sheet_laws.specs.ListingBoundLaws.{listing_fits, refusal_fits}
use Rattle.sheet_laws.specs.Short.{Short}
use Rattle.sheet_laws.proofs.Distances.{distance_prints}
use Rattle.sheet_answers.proofs.Fits.{flat_take, every}
use Rattle.sheet_answers.specs.Printed.{work, eliminated, planned, sheet_of, printed}

-- ---- an accepted call

abbrev said : Reduction → Slices → Reply
said d t = record { answer = answered d; slices = t }

answer_is : {d e : Reduction} → answered d ≡ answered e → d ≡ e
answer_is h = cc

module _ (p : Problem) (s : Slices) (c : Call) where
  -- a call that is answered had a problem and a plan that pass the entry checks
  entry_passed : (d : Reduction) (t : Slices) → said d t ≡ call p s c → entry p s ≡ None
  unfolding run
  entry_passed d t e = go (entry p s) refl
    where
      go : (o : Option ℕ) → entry p s ≡ o → o ≡ None
      go None f = refl
      go (Some k) f =
          let r : call p s c ≡ record { answer = refused k; slices = s } = all_head ((demand_3 p s (c ∷ [])).refused_whole k f) in
          let a = ap (λ (x : Reply). x.answer) (e ∙ r) in
          let z : ◌≡◌ {A = ℕ} 0 1 = cc in
          absurd (omega arith)

  -- and leaves a plan that does
  entry_passed_after : (d : Reduction) (t : Slices) → said d t ≡ call p s c → entry p t ≡ None
  unfolding run
  entry_passed_after d t e =
      ap (λ (x : Reply). entry p x.slices) e ∙ (all_head ((demand_3 p s (c ∷ [])).demand (entry_passed d t e)).kept).accepted

-- with enough work cells eliminate is refused by no row of its own
own_none : (p : Problem) (s : Slices) → entry p s ≡ None → refusal (eliminate_inputs p s work) ≡ None
unfolding first_applying table too_few
own_none p s e = own_rows p s None None (Some work) e

-- Eliminate after an accepted minimise is not refused.
pub eliminate_follows : (p : Problem) (s : Slices) (c : Call) (d : Reduction) (t : Slices) → said d t ≡ call p s c → refusal (eliminate_inputs p t work) ≡ None
eliminate_follows p s c d t e = own_none p t (entry_passed_after p s c d t e)

-- ---- what eliminate answers

-- it answers no more routes than there are lengths
few_routes : (p : Problem) (s : Slices) (d : Reduction) (t : Slices) → said d t ≡ public_eliminate p s work → d.routes ≤ length s.lengths
unfolding public_eliminate reply
few_routes p s d t e = go (refusal (eliminate_inputs p s work)) e
  where
    x : Plan
    x = eliminate_routes p (plan_in s)

    go : (o : Option ℕ) → said d t ≡ reply s o (record { plan = x; counts = record { steps = 0; draws = 0 } }) → d.routes ≤ length s.lengths
    go (Some k) f =
        let a = ap (λ (y : Reply). y.answer) f in
        let z : ◌≡◌ {A = ℕ} 0 1 = cc in
        absurd (omega arith)
    go None f =
        let a = ap (λ (y : Reply). y.answer) f in
        let b : d.routes ≡ length x = ap (λ (y : Reduction). y.routes) (answer_is a) in
        omega (arith, b, (eliminate_keeps p (λ r. Unit {0}) (λ r h. tt) (plan_in s) (every (plan_in s))).no_longer, length_split s.lengths s.stops)

-- routes over n places print where the distances have nine digits
stops_print : (p : Problem) → Short p.roads.size p.roads.distances → depot p < p.roads.size → (route : List ℕ) → Stops p.roads.size route → Prints p route
stops_print p h home route s =
    let m = p.roads in
    let most = mul-le-mul_right 999_999_999 s.few in
    let few : suc (length route) * 999_999_999 ≤ 2 ^ 53 = omega (arith, most) in
    let d = distance_prints m.size h.cells m.times h.size 999_999_999 h.small (depot p) home route (all_of route 0 s.each) few in
    record {
      castable = subst (λ (ds : List Float). T (in_unsigned binary64 64 (route_distance (matrix m.size ds m.times) (depot p) route))) (sym h.are) d.0;
    }

-- the first routes of a plan are those of the first lengths
split_take : (ls s : List ℕ) (k : ℕ) → split (take k ls) s ≡ take k (split ls s)
unfolding split
split_take ls s zero = refl
split_take [] s (suc k) = refl
split_take (n ∷ ls) s (suc k) = ap (λ (rs : Plan). take n s ∷ rs) (split_take ls (drop n s) k)

-- ---- texts that are printed

-- the text that is written is the one that the definition prints
pub written_as : {out x y after : List ℕ} {r : ℕ} → Written out 0 x after r → x ≡ y → Written out 0 y after r
written_as {out} {x} {y} {after} {r} w e = subst (λ (z : List ℕ). Written out 0 z after r) e w

-- every refusal has room
pub refusal_room : (out : List ℕ) (k : ℕ) → 6000 ≤ length out → Room out 0 (refusal_line k)
refusal_room out k h = record { fits = omega (arith, refusal_fits k) }

-- ---- eliminate, in code: its answer a, the slices after it, and the numbers of work cells

module _
    (p : Problem)
    (s : Slices)
    (a : Result Reduction Refusal)
    (lengths stops : List ℕ)
    (small wide : ℕ)
    (e : reply_of a lengths stops ≡ public_eliminate p s (work_of small wide))
    (h : small ≡ 8192)
    (g : wide ≡ 2048)
  where
    lent : reply_of a lengths stops ≡ public_eliminate p s work
    lent = rw (h, g) at e

    module _ (counts : Counts) (given : ℕ) where
      pub eliminate_refuses : (r : Refusal) → a ≡ Err r → refusal_line (number r) ≡ eliminated p s counts given
      unfolding eliminated
      eliminate_refuses r f =
          let x : record { answer = refused (number r); slices = slices_of lengths stops } ≡ public_eliminate p s work = rw f at lent in
          rw (← x)

      module _ (d : Reduction) (f : a ≡ Ok d) where
        answers : said d (slices_of lengths stops) ≡ public_eliminate p s work
        answers = rw f at lent

        -- the routes that are listed: those of the first lengths
        abbrev routes : Plan
        routes = split (take d.routes lengths) stops

        pub eliminate_lists : listing p routes counts given ≡ eliminated p s counts given
        unfolding eliminated
        eliminate_lists = rw (split_take lengths stops d.routes, ← answers)

        accepted : Accepted p (slices_of lengths stops)
        unfolding call
        accepted = (eliminate_accepted p (slices_of lengths stops) work (own_none p (slices_of lengths stops) (entry_passed_after p s (eliminate work) d (slices_of lengths stops) answers))).0

        -- their lengths are there, and their stops lie in the slice
        pub routes_there : length lengths ≡ length s.lengths → d.routes ≤ length lengths
        routes_there same = omega (arith, few_routes p s d (slices_of lengths stops) answers, same)

        pub routes_lent : length stops ≤ 64 → Lent (take d.routes lengths) stops
        routes_lent few_stops = record { inside = omega (arith, offset_within lengths d.routes, accepted.sum); few = omega (arith, few_stops) }

        module _ (short : Short p.roads.size p.roads.distances) (few-lengths : length lengths ≤ 64) (few_stops : length stops ≤ 64) (out : List ℕ) (room : 6000 ≤ length out) where
          -- what the writer of a listing asks for
          pub eliminate_asks
              : Room out 0 (listing p routes counts given)
              × (((p.roads.size ≤ 256) × (length p.roads.distances ≡ p.roads.size * p.roads.size))
              × (((depot p < p.roads.size) × Demands p.roads.size p.demand) × (All (Stops p.roads.size) routes × All (Prints p) routes)))
          eliminate_asks =
              let b = accepted in
              let first : routes ≡ take d.routes (split lengths stops) = split_take lengths stops d.routes in
              let inside : All (Stops p.roads.size) routes = rw first (all_take d.routes (planned_stops p.roads.size (split lengths stops) b.planned)) in
              let few : length routes ≤ 64 = rw first (omega (arith, length-take d.routes (split lengths stops), length_split lengths stops, few-lengths)) in
              let in_all : length (flat routes) ≤ 64 = rw first (omega (arith, flat_take d.routes (split lengths stops), ap length (flat_split_all lengths stops b.sum), few_stops)) in (
                record { fits = omega (arith, listing_fits p routes counts given few in_all, room) },
                (
                  (b.admitted.fit.square.few, b.admitted.fit.square.distance_cells),
                  ((b.admitted.depot_in, b.admitted.demands), (inside, all_map (λ r q. stops_print p short b.admitted.depot_in r q) inside)),
                ),
              )

-- ---- minimise, in code

module _
    (p : Problem)
    (plan : Slices)
    (tape : List ℕ)
    (limit clock : ℕ)
    (a : Result Reduction Refusal)
    (lengths stops : List ℕ)
    (small wide : ℕ)
    (e : reply_of a lengths stops ≡ public_minimise p plan (allowance limit clock tape) (work_of small wide))
    (h : small ≡ 8192)
    (g : wide ≡ 2048)
  where
    lent_first : reply_of a lengths stops ≡ public_minimise p plan (allowance limit clock tape) work
    lent_first = rw (h, g) at e

    pub minimise_refuses : (r : Refusal) → a ≡ Err r → refusal_line (number r) ≡ planned (sheet_of p plan tape limit clock)
    unfolding planned
    minimise_refuses r f =
        let x : record { answer = refused (number r); slices = slices_of lengths stops } ≡ public_minimise p plan (allowance limit clock tape) work = rw f at lent_first in
        rw (← x)

    pub minimise_goes_on : (d : Reduction) → a ≡ Ok d → eliminated p (slices_of lengths stops) d.counts (length plan.lengths) ≡ planned (sheet_of p plan tape limit clock)
    unfolding planned
    minimise_goes_on d f =
        let r : said d (slices_of lengths stops) ≡ public_minimise p plan (allowance limit clock tape) work = rw f at lent_first in
        rw (← r)

-- ---- the reader, in code

module _ (s : List ℕ) where
  pub reader_refuses : (k : ℕ) → refused-reading k ≡ sheet s 0 → refusal_line k ≡ printed s
  unfolding printed
  reader_refuses k e = rw (← e)

  pub reader_goes_on : (x : Sheet) (i : ℕ) → got x i ≡ sheet s 0 → planned x ≡ printed s
  unfolding printed
  reader_goes_on x i e = rw (← e)
