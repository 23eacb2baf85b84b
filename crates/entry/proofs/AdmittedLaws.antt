-- What the functions inside ask for holds where the table refuses nothing. Assumes nothing.
use Prim.Native.Nat.{ℕ, ◌≤◌, ◌<◌}
use mathlib.Core.Path.{◌≡◌, refl, sym, ap, ◌∙◌}
use mathlib.Core.Bool.{Bool, true, false, not, ◌||◌, true≢false}
use mathlib.Core.List.{List, [], ◌∷◌}
use Rattle.std.specs.Prelude.{Option, None, Some}
use native.Mathlib.Omega.{arith}
use borrow.Author.Tests.{ltb-true, ltb-false, eqb-true}
use lib.ListN.{length, get_or, take}
use lib.Dec.{eqb, ltb}
use Rattle.local_search.specs.laws.Counts.{count}
use Rattle.local_search.specs.laws.Searches.{and_first, every_at, or_neither}
use Rattle.local_search.specs.models.declared.vehicle.VehicleBreak.{VehicleBreak}
use Rattle.local_search.specs.models.Problem.{Problem, Stops, Admitted}
use Rattle.local_search.specs.models.Valid.{rest_passes, sizes_pass, values_pass, windows_pass, depot_passes, valid}
use Rattle.local_search.specs.ModelsValidLaws.{valid_count, valid_fit, valid_demands, valid_depot}
use Rattle.local_search.specs.plan.Plan.{Slices, total, split}
use Rattle.local_search.specs.plan.Slices.{flat_split_all}
use Rattle.local_search.specs.Planned.{Planned}
use Rattle.entry.specs.declared.Work.{Work}
use Rattle.entry.specs.Table.{stop_passes, stops_pass, bad_lengths, is_empty, too_few, refusal}
use Rattle.entry.specs.Given.{problem_inputs, route_inputs, schedule_inputs, eliminate_inputs, minimise_inputs}
use Rattle.entry.specs.Rows.{problem_rows, route_rows, plan_rows, work_rows, minimise_rows, or_else, problem_refusal, route_refusal, schedule_refusal, eliminate_refusal, minimise_refusal}
use Rattle.entry.proofs.StopsLaws.{both, stops_distinct, distinct_few, distinct_outside}
use Rattle.entry.proofs.EntryLaws.{row_passed, passes}

-- ---- no group has a refusal

neither_group : (x y : Option ℕ) → or_else x y ≡ None → (x ≡ None) × (y ≡ None)
neither_group None y e = (refl, e)
neither_group (Some n) y e = (e, cc)

-- ---- rows 1 to 4

pub rows_valid : (p : Problem) (beside : Bool) → problem_rows beside p ≡ None → (valid p ≡ true) × (beside ≡ true)
unfolding problem_rows valid
rows_valid p beside e =
    let a = row_passed (not (sizes_pass p)) 1 _ e in
    let b = row_passed (not (values_pass p) || not beside) 2 _ a.1 in
    let c = row_passed (not (windows_pass p)) 3 _ b.1 in
    let d = row_passed (not (depot_passes p)) 4 _ c.1 in
    let n = or_neither (not (values_pass p)) (not beside) b.0 in
    (both (passes (sizes_pass p) a.0) (both (passes (values_pass p) n.0) (both (passes (windows_pass p) c.0) (passes (depot_passes p) d.0))), passes beside n.1)

pub valid_admitted : (p : Problem) → valid p ≡ true → Admitted p
valid_admitted p v = record { fit = valid_fit p v; demands = valid_demands p v; depot_in = valid_depot p v }

-- ---- rows 5 and 6

-- the stops of a route: places, none of them the depot, fewer than there are places
pub record Routed (p : Problem) (route : List ℕ) : Type 0 where
  pub stops : Stops p.roads.size route
  pub few : length route ≤ 255
  pub passing : stops_pass p route ≡ true

module _ (p : Problem) (v : valid p ≡ true) (route : List ℕ) where
  stops_routed : stops_pass p route ≡ true → Routed p route
  unfolding stops_pass stop_passes
  stops_routed e =
      let few : length route < p.roads.size = distinct_few p route (stops_distinct p route e) (valid_depot p v) in
      record {
        stops = record {
          few = omega (arith, few, valid_count p v);
          each = λ k h. ltb-true (get_or route k 0) p.roads.size
              (and_first (ltb (get_or route k 0) p.roads.size) _ (every_at (λ i. stop_passes p (take i route) (get_or route i 0)) (length route) k e h));
        };
        few = omega (arith, few, valid_count p v);
        passing = e;
      }

  rows_routed : route_rows p route ≡ None → Routed p route
  unfolding route_rows
  rows_routed e = stops_routed (passes (stops_pass p route) (row_passed (not (stops_pass p route)) 6 _ e).0)

-- a plan that minimise and eliminate work on
pub record Accepted (p : Problem) (s : Slices) : Type 0 where
  pub admitted : Admitted p
  pub routes : length s.lengths ≤ 256
  pub sum : total s.lengths ≡ length s.stops
  pub few : length s.stops ≤ 255
  pub planned : Planned p.roads.size (split s.lengths s.stops)

rows_accepted : (p : Problem) (s : Slices) → valid p ≡ true → plan_rows p s ≡ None → Accepted p s
unfolding plan_rows bad_lengths
rows_accepted p s v e =
    let a = row_passed (bad_lengths s) 5 _ e in
    let l = or_neither (ltb 256 (length s.lengths)) (not (eqb (total s.lengths) (length s.stops))) a.0 in
    let r = rows_routed p v s.stops a.1 in
    let sum : total s.lengths ≡ length s.stops = eqb-true (total s.lengths) (length s.stops) (passes (eqb (total s.lengths) (length s.stops)) l.1) in
    let whole = flat_split_all s.lengths s.stops sum in
    record {
      admitted = valid_admitted p v;
      routes = ltb-false 256 (length s.lengths) l.0;
      sum = sum;
      few = r.few;
      planned = record {
        few = omega (arith, ap length whole, r.few);
        places = λ c h. ap (count c) whole ∙ distinct_outside p s.stops (stops_distinct p s.stops r.passing) c h;
      };
    }

-- ---- rows 7 to 9

pub record Enough (w : Work) : Type 0 where
  pub u16_there : 8192 ≤ w.u16_cells
  pub f64_there : 2048 ≤ w.f64_cells

rows_enough : (w : Work) → work_rows w ≡ None → Enough w
unfolding work_rows too_few
rows_enough w e =
    let a = or_neither (ltb w.u16_cells 8192) (ltb w.f64_cells 2048) (row_passed (too_few w) 9 _ e).0 in
    record { u16_there = ltb-false w.u16_cells 8192 a.0; f64_there = ltb-false w.f64_cells 2048 a.1 }

tape_there : (tape : List ℕ) → is_empty tape ≡ false → 0 < length tape
tape_there [] e = absurd (true≢false e)
tape_there (w ∷ ws) e = omega arith

pub record Allowed (tape : List ℕ) (limit : ℕ) (w : Work) : Type 0 where
  pub words : 0 < length tape
  pub steps : limit ≤ 65535
  pub enough : Enough w

rows_allowed : (tape : List ℕ) (limit : ℕ) (w : Work) → minimise_rows tape limit w ≡ None → Allowed tape limit w
unfolding minimise_rows
rows_allowed tape limit w e =
    let a = row_passed (is_empty tape) 7 _ e in
    let b = row_passed (ltb 65535 limit) 8 _ a.1 in
    record { words = tape_there tape a.0; steps = ltb-false 65535 limit b.0; enough = rows_enough w b.1 }

-- ---- the calls

module _ (p : Problem) where
  pub problem_accepted : refusal (problem_inputs p) ≡ None → valid p ≡ true
  problem_accepted e = (rows_valid p true (sym (problem_refusal p) ∙ e)).0

  module _ (r : List ℕ) where
    pub route_accepted : refusal (route_inputs p r) ≡ None → (valid p ≡ true) × Routed p r
    route_accepted e =
        let g = neither_group (problem_rows true p) (route_rows p r) (sym (route_refusal p r) ∙ e) in
        let v = (rows_valid p true g.0).0 in
        (v, rows_routed p v r g.1)

    pub schedule_accepted : (b : VehicleBreak) → refusal (schedule_inputs p b r) ≡ None
        → (valid p ≡ true) × Routed p r × (rest_passes (Some b) ≡ true)
    schedule_accepted b e =
        let fine = rest_passes (Some b) in
        let g = neither_group (problem_rows fine p) (route_rows p r) (sym (schedule_refusal p b r) ∙ e) in
        let v = rows_valid p fine g.0 in
        (v.0, rows_routed p v.0 r g.1, v.1)

  module _ (s : Slices) (w : Work) where
    pub eliminate_accepted : refusal (eliminate_inputs p s w) ≡ None → Accepted p s × Enough w
    eliminate_accepted e =
        let g = neither_group (problem_rows true p) (or_else (plan_rows p s) (work_rows w)) (sym (eliminate_refusal p s w) ∙ e) in
        let h = neither_group (plan_rows p s) (work_rows w) g.1 in
        (rows_accepted p s (rows_valid p true g.0).0 h.0, rows_enough w h.1)

    pub minimise_accepted : (tape : List ℕ) (limit : ℕ) → refusal (minimise_inputs p s tape limit w) ≡ None → Accepted p s × Allowed tape limit w
    minimise_accepted tape limit e =
        let g = neither_group (problem_rows true p) (or_else (plan_rows p s) (minimise_rows tape limit w)) (sym (minimise_refusal p s w tape limit) ∙ e) in
        let h = neither_group (plan_rows p s) (minimise_rows tape limit w) g.1 in
        (rows_accepted p s (rows_valid p true g.0).0 h.0, rows_allowed tape limit w h.1)
