-- Answers and plans as they are stored, and whether two are the same. Assumes nothing.
use Rattle.std.specs.Prelude.{ℕ, List, [], ◌∷◌, Bool, true, false, cond, ◌&&◌, eqb, Float, Option, Some, None}
use Rattle.std.specs.Float.{binary64}
use Rattle.std.specs.Float.Ieee.{to_bits}
use Rattle.planner_questions.specs.break_clock.declared.route_eval.RouteEval.{RouteEval}
use Rattle.planner_questions.specs.plan.Plan.{Slices}
use Rattle.planner_questions.specs.local_search.declared.rounds.Reduction.{Reduction}
use Rattle.planner_questions.specs.planner.Calls.{Answer, refused, answered}
use Rattle.stored_answers.specs.declared.Stored.{Stored}
use Rattle.planner_questions.specs.models.declared.customer.TimeWindow.{TimeWindow}

-- a tag and six numbers
abbrev pub stored : ℕ → ℕ → ℕ → ℕ → ℕ → ℕ → ℕ → Stored
stored t a b c d e f = record { tag = t; a = a; b = b; c = c; d = d; e = e; f = f }

-- a float by its bits
abbrev pub bits : Float → ℕ
bits x = to_bits binary64 x

-- "A refusal returns its number only": tag 0
abbrev pub refusal_stored : ℕ → Stored
refusal_stored n = stored 0 n 0 0 0 0 0

-- `route_feasible`: 0 or 1
abbrev pub checked_stored : Answer Bool → Stored
checked_stored (refused n) = refusal_stored n
checked_stored (answered b) = stored 1 (cond b 1 0) 0 0 0 0 0

-- `effective_cost`, `route_distance`, `lateness_bound`, `gain_floor`: a float
abbrev pub number_stored : Answer Float → Stored
number_stored (refused n) = refusal_stored n
number_stored (answered x) = stored 1 (bits x) 0 0 0 0 0

-- an evaluation without a break, tag 2, or with one, tag 3
abbrev pub route_stored : RouteEval → Option (ℕ × Float) → Stored
route_stored e None = stored 2 (bits e.distance) (bits e.duration) (bits e.lateness) (bits e.lateness_cost) 0 0
route_stored e (Some (i, start)) = stored 3 (bits e.distance) (bits e.duration) (bits e.lateness) (bits e.lateness_cost) i (bits start)

-- not feasible is tag 1
abbrev pub eval_stored : Option RouteEval → Stored
eval_stored None = stored 1 0 0 0 0 0 0
eval_stored (Some e) = route_stored e e.rest

-- `route_eval` and `schedule`
abbrev pub evaluated_stored : Answer (Option RouteEval) → Stored
evaluated_stored (refused n) = refusal_stored n
evaluated_stored (answered e) = eval_stored e

-- `TimeWindow::new`: no window is tag 1, a window tag 2
abbrev pub window_stored : Option TimeWindow → Stored
window_stored None = stored 1 0 0 0 0 0 0
window_stored (Some w) = stored 2 (bits w.ready) (bits w.due) 0 0 0 0

-- "A call returns r"; "Results carry steps and draws."
abbrev pub reply_stored : Answer Reduction → Stored
reply_stored (refused n) = refusal_stored n
reply_stored (answered d) = stored 1 d.routes d.counts.steps d.counts.draws 0 0 0

-- ---- the same

-- the last three numbers of two answers
abbrev pub same_rest : Stored → Stored → Bool
same_rest x y = eqb x.d y.d && (eqb x.e y.e && eqb x.f y.f)

-- all seven
abbrev pub same_stored : Stored → Stored → Bool
same_stored x y = eqb x.tag y.tag && (eqb x.a y.a && (eqb x.b y.b && (eqb x.c y.c && same_rest x y)))

-- two slices of a plan, cell by cell
unfoldable pub same_cells : List ℕ → List ℕ → Bool
same_cells [] [] = true
same_cells [] (y ∷ ys) = false
same_cells (x ∷ xs) [] = false
same_cells (x ∷ xs) (y ∷ ys) = eqb x y && same_cells xs ys

-- "both slices whole"
abbrev pub same_plan : Slices → List ℕ → List ℕ → Bool
same_plan s lengths stops = same_cells s.lengths lengths && same_cells s.stops stops
