-- The rows of the table in groups, by what they read; a call's refusal is the first of its groups that has one. Assumes nothing.
use Rattle.std.specs.Prelude.{ℕ, Bool, true, false, cond, not, ◌||◌, List, ◌≡◌, ltb}
use Rattle.std.specs.Prelude.{Option, None, Some}
use Rattle.std.proofs.Math.Path.{refl}
use Rattle.local_search.specs.models.declared.vehicle.VehicleBreak.{VehicleBreak}
use Rattle.local_search.specs.models.Problem.{Problem}
use Rattle.local_search.specs.models.Valid.{rest_passes, sizes_pass, values_pass, windows_pass, depot_passes}
use Rattle.local_search.specs.plan.Plan.{Slices}
use Rattle.entry.specs.declared.Work.{Work}
use Rattle.entry.specs.Table.{bad_break, bad_lengths, stops_pass, is_empty, too_few, table, first_applying, refusal}
use Rattle.entry.specs.Given.{problem_inputs, route_inputs, schedule_inputs, eliminate_inputs, minimise_inputs}

-- rows 1 to 4; `beside` says whether the floats given beside the problem pass row 2
unfoldable pub problem_rows : Bool → Problem → Option ℕ
problem_rows beside p =
    cond (not (sizes_pass p)) (Some 1)
    (cond (not (values_pass p) || not beside) (Some 2) (cond (not (windows_pass p)) (Some 3) (cond (not (depot_passes p)) (Some 4) None)))

-- row 6, of a route
unfoldable pub route_rows : Problem → List ℕ → Option ℕ
route_rows p r = cond (not (stops_pass p r)) (Some 6) None

-- rows 5 and 6, of a plan
unfoldable pub plan_rows : Problem → Slices → Option ℕ
plan_rows p s = cond (bad_lengths s) (Some 5) (route_rows p s.stops)

-- row 9
unfoldable pub work_rows : Work → Option ℕ
work_rows w = cond (too_few w) (Some 9) None

-- rows 7 to 9
unfoldable pub minimise_rows : List ℕ → ℕ → Work → Option ℕ
minimise_rows tape limit w = cond (is_empty tape) (Some 7) (cond (ltb 65535 limit) (Some 8) (work_rows w))

-- the first of two groups that has a refusal
abbrev pub or_else : Option ℕ → Option ℕ → Option ℕ
or_else None y = y
or_else (Some n) y = Some n

-- ---- the calls' refusals by these groups

row_then : (b : Bool) (n : ℕ) (x y z : Option ℕ) → z ≡ or_else x y → cond b (Some n) z ≡ or_else (cond b (Some n) x) y
row_then true n x y z e = refl
row_then false n x y z e = e

or_false : (b : Bool) → (b || false) ≡ b
or_false true = refl
or_false false = refl

module _ (p : Problem) where
  pub problem_refusal : refusal (problem_inputs p) ≡ problem_rows true p
  unfolding refusal first_applying table problem_rows
  problem_refusal = refl

  pub route_refusal : (r : List ℕ) → refusal (route_inputs p r) ≡ or_else (problem_rows true p) (route_rows p r)
  unfolding refusal first_applying table problem_rows route_rows
  route_refusal r =
      row_then (not (sizes_pass p)) 1 _ _ _ (row_then (not (values_pass p) || false) 2 _ _ _
      (row_then (not (windows_pass p)) 3 _ _ _ (row_then (not (depot_passes p)) 4 _ _ _ refl)))

  pub schedule_refusal : (b : VehicleBreak) (r : List ℕ) → refusal (schedule_inputs p b r) ≡ or_else (problem_rows (rest_passes (Some b)) p) (route_rows p r)
  unfolding refusal first_applying table problem_rows route_rows
  schedule_refusal b r =
      row_then (not (sizes_pass p)) 1 _ _ _ (row_then (not (values_pass p) || bad_break b) 2 _ _ _
      (row_then (not (windows_pass p)) 3 _ _ _ (row_then (not (depot_passes p)) 4 _ _ _ refl)))

  module _ (s : Slices) (w : Work) where
    pub eliminate_refusal : refusal (eliminate_inputs p s w) ≡ or_else (problem_rows true p) (or_else (plan_rows p s) (work_rows w))
    unfolding refusal first_applying table problem_rows plan_rows route_rows work_rows
    eliminate_refusal =
        row_then (not (sizes_pass p)) 1 _ _ _ (row_then (not (values_pass p) || false) 2 _ _ _
        (row_then (not (windows_pass p)) 3 _ _ _ (row_then (not (depot_passes p)) 4 _ _ _
        (row_then (bad_lengths s) 5 _ _ _ (rw (or_false (not (stops_pass p s.stops))) (row_then (not (stops_pass p s.stops)) 6 _ _ _ refl))))))

    pub minimise_refusal : (tape : List ℕ) (limit : ℕ)
        → refusal (minimise_inputs p s tape limit w) ≡ or_else (problem_rows true p) (or_else (plan_rows p s) (minimise_rows tape limit w))
    unfolding refusal first_applying table problem_rows plan_rows route_rows minimise_rows work_rows
    minimise_refusal tape limit =
        row_then (not (sizes_pass p)) 1 _ _ _ (row_then (not (values_pass p) || false) 2 _ _ _
        (row_then (not (windows_pass p)) 3 _ _ _ (row_then (not (depot_passes p)) 4 _ _ _
        (row_then (bad_lengths s) 5 _ _ _ (rw (or_false (not (stops_pass p s.stops))) (row_then (not (stops_pass p s.stops)) 6 _ _ _ refl))))))
