-- The entry checks come first: what the problem and the plan alone are refused with, every call on them is refused with; and where they are
-- accepted, a call is refused only by its own rows. Assumes nothing.
use Prim.Native.Nat.{ℕ, ◌≤◌}
use mathlib.Core.Path.{◌≡◌, refl, ap}
use mathlib.Core.Bool.{Bool, true, false, cond, not, ◌||◌}
use mathlib.Core.List.{List}
use Rattle.std.specs.Prelude.{Option, None, Some}
use borrow.Author.Tests.{ltb-false, le-ltb, eqb-true, eq-eqb}
use lib.ListN.{length, drop}
use lib.Dec.{eqb, ltb}
use Rattle.local_search.specs.laws.Searches.{and_first, and_second, or_neither}
use Rattle.local_search.specs.models.Problem.{Problem}
use Rattle.local_search.specs.models.Valid.{sizes_pass, values_pass, windows_pass, depot_passes, valid}
use Rattle.local_search.specs.plan.Plan.{Slices, total}
use Rattle.entry.specs.declared.Work.{Work}
use Rattle.entry.specs.Table.{Inputs, bad_lengths, stops_pass, table, first_applying, refusal}
use Rattle.entry.specs.Given.{entry}
use Rattle.entry.proofs.StopsLaws.{both}

-- the inputs of a call on a plan, whatever else it is given
abbrev pub call_inputs : Problem → Slices → Option (List ℕ) → Option ℕ → Option Work → Inputs
call_inputs p s tape limit work = record { problem = p; rest = None; plan = Some s; route = None; tape = tape; limit = limit; work = work }

-- ---- a row before some others

row_first : (b : Bool) (n k : ℕ) (x y : Option ℕ) → (x ≡ Some k → y ≡ Some k) → cond b (Some n) x ≡ Some k → cond b (Some n) y ≡ Some k
row_first true n k x y f e = e
row_first false n k x y f e = f e

pub row_passed : (b : Bool) (n : ℕ) (x : Option ℕ) → cond b (Some n) x ≡ None → (b ≡ false) × (x ≡ None)
row_passed true n x e = (cc, cc)
row_passed false n x e = (refl, e)

row_over : (b : Bool) (n : ℕ) (x y : Option ℕ) → b ≡ false → x ≡ y → cond b (Some n) x ≡ y
row_over b n x y e f = rw (e, f)

pub passes : (b : Bool) → not b ≡ false → b ≡ true
passes true e = refl
passes false e = cc

module _ (p : Problem) (s : Slices) where
  -- ---- refused at the entry

  pub entry_first : (tape : Option (List ℕ)) (limit : Option ℕ) (work : Option Work) (k : ℕ) → entry p s ≡ Some k
      → refusal (call_inputs p s tape limit work) ≡ Some k
  unfolding refusal first_applying table
  entry_first tape limit work k e =
      row_first (not (sizes_pass p)) 1 k _ _
      (row_first (not (values_pass p) || false) 2 k _ _
      (row_first (not (windows_pass p)) 3 k _ _
      (row_first (not (depot_passes p)) 4 k _ _
      (row_first (bad_lengths s) 5 k _ _
      (row_first (not (stops_pass p s.stops) || false) 6 k _ _ (λ f. cc)))))) e

  -- ---- accepted at the entry

  pub record Entered : Type 0 where
    pub problem_valid : valid p ≡ true
    pub few_routes : length s.lengths ≤ 256
    pub sum : total s.lengths ≡ length s.stops
    pub stops_valid : stops_pass p s.stops ≡ true

  pub entered : entry p s ≡ None → Entered
  unfolding refusal first_applying table bad_lengths valid
  entered e =
      let a = row_passed (not (sizes_pass p)) 1 _ e in
      let b = row_passed (not (values_pass p) || false) 2 _ a.1 in
      let c = row_passed (not (windows_pass p)) 3 _ b.1 in
      let d = row_passed (not (depot_passes p)) 4 _ c.1 in
      let f = row_passed (bad_lengths s) 5 _ d.1 in
      let g = row_passed (not (stops_pass p s.stops) || false) 6 _ f.1 in
      let l = or_neither (ltb 256 (length s.lengths)) (not (eqb (total s.lengths) (length s.stops))) f.0 in
      record {
        problem_valid = both (passes (sizes_pass p) a.0) (both (passes (values_pass p) (or_neither (not (values_pass p)) false b.0).0) (both (passes (windows_pass p) c.0) (passes (depot_passes p) d.0)));
        few_routes = ltb-false 256 (length s.lengths) l.0;
        sum = eqb-true (total s.lengths) (length s.stops) (passes (eqb (total s.lengths) (length s.stops)) l.1);
        stops_valid = passes (stops_pass p s.stops) (or_neither (not (stops_pass p s.stops)) false g.0).0;
      }

  pub enter : Entered → entry p s ≡ None
  unfolding refusal first_applying table bad_lengths valid
  enter h =
      let v = h.problem_valid in
      let v2 = and_second (sizes_pass p) _ v in
      let v3 = and_second (values_pass p) _ v2 in
      row_over (not (sizes_pass p)) 1 _ None (ap not (and_first (sizes_pass p) _ v))
      (row_over (not (values_pass p) || false) 2 _ None (rw (and_first (values_pass p) _ v2))
      (row_over (not (windows_pass p)) 3 _ None (ap not (and_first (windows_pass p) _ v3))
      (row_over (not (depot_passes p)) 4 _ None (ap not (and_second (windows_pass p) _ v3))
      (row_over (bad_lengths s) 5 _ None (rw (le-ltb 256 (length s.lengths) h.few_routes, eq-eqb (total s.lengths) (length s.stops) h.sum))
      (row_over (not (stops_pass p s.stops) || false) 6 _ None (rw h.stops_valid) refl)))))

  -- an accepted plan: later calls are refused only for their own rows, 7, 8 and 9
  pub own_rows : (tape : Option (List ℕ)) (limit : Option ℕ) (work : Option Work) → entry p s ≡ None
      → refusal (call_inputs p s tape limit work) ≡ first_applying (drop 6 table) (call_inputs p s tape limit work)
  unfolding refusal first_applying table
  own_rows tape limit work e =
      let a = row_passed (not (sizes_pass p)) 1 _ e in
      let b = row_passed (not (values_pass p) || false) 2 _ a.1 in
      let c = row_passed (not (windows_pass p)) 3 _ b.1 in
      let d = row_passed (not (depot_passes p)) 4 _ c.1 in
      let f = row_passed (bad_lengths s) 5 _ d.1 in
      let g = row_passed (not (stops_pass p s.stops) || false) 6 _ f.1 in
      row_over (not (sizes_pass p)) 1 _ _ a.0
      (row_over (not (values_pass p) || false) 2 _ _ b.0
      (row_over (not (windows_pass p)) 3 _ _ c.0
      (row_over (not (depot_passes p)) 4 _ _ d.0
      (row_over (bad_lengths s) 5 _ _ f.0
      (row_over (not (stops_pass p s.stops) || false) 6 _ _ g.0 refl)))))
