-- The questions about a problem: what a refused one says, what an accepted one may rely on and what it answers. Assumes nothing.
use Prim.Native.Nat.{ℕ}
use mathlib.Core.Path.{◌≡◌, sym}
use mathlib.Core.List.{[]}
use Rattle.std.specs.Prelude.{None, Some}
use lib.Ieee.{Float}
use Rattle.planner_questions.specs.models.Problem.{Problem, Fit, matrix}
use Rattle.planner_questions.specs.ModelsValidLaws.{valid_fit}
use Rattle.planner_questions.specs.lateness_bound.Bound.{lateness_bound}
use Rattle.planner_questions.specs.route_cost.Route.{gain_floor}
use Rattle.planner_questions.specs.entry.Table.{refusal}
use Rattle.planner_questions.specs.entry.Given.{problem_inputs}
use Rattle.planner_questions.specs.EntryAdmittedLaws.{problem_accepted}
use Rattle.planner_questions.specs.planner.Calls.{refused, answered, public_lateness_bound, public_gain_floor}
use Rattle.planner_questions.proofs.QuestionLaws.{refuses, answers}

module _ (p : Problem) where
  pub bound_refused : (n : ℕ) → Some n ≡ refusal (problem_inputs p) → refused n ≡ public_lateness_bound p
  unfolding public_lateness_bound
  bound_refused n e = refuses n _ _ e

  pub floor_refused : (n : ℕ) → Some n ≡ refusal (problem_inputs p) → refused n ≡ public_gain_floor p
  unfolding public_gain_floor
  floor_refused n e = refuses n _ _ e

  module _ (e : None ≡ refusal (problem_inputs p)) where
    pub problem_fit : Fit p.places p.roads
    problem_fit = valid_fit p (problem_accepted p (sym e))

    pub bound_answered : (x : Float) → x ≡ lateness_bound p.places p.roads → answered x ≡ public_lateness_bound p
    unfolding public_lateness_bound
    bound_answered x f = answers _ x _ e f

    pub floor_answered : (x : Float) → x ≡ gain_floor (matrix 0 p.roads.distances []) → answered x ≡ public_gain_floor p
    unfolding public_gain_floor
    floor_answered x f = answers _ x _ e f
