-- The questions about a route's worth: what a refused one says, and what an accepted one answers. Assumes nothing.
use Rattle.std.specs.Prelude.{Option, None, Some}
use Prim.Native.Nat.{ℕ}
use mathlib.Core.Path.{◌≡◌, ap, ◌∙◌}
use mathlib.Core.List.{List}
use lib.Ieee.{Float}
use Rattle.planner_questions.specs.models.declared.limits.RouteLimits.{RouteLimits}
use Rattle.planner_questions.specs.break_clock.declared.route_eval.RouteEval.{RouteEval}
use Rattle.planner_questions.specs.models.RouteLimits.{limits_of}
use Rattle.planner_questions.specs.models.Problem.{Problem, depot}
use Rattle.planner_questions.specs.evaluation.Eval.{route_eval, effective_cost}
use Rattle.planner_questions.specs.entry.Table.{refusal}
use Rattle.planner_questions.specs.entry.Given.{route_inputs}
use Rattle.planner_questions.specs.planner.Calls.{refused, answered, public_route_eval, public_effective_cost}
use Rattle.planner_questions.proofs.QuestionLaws.{refuses, answers}

module _ (p : Problem) (route : List ℕ) where
  pub eval_refused : (n : ℕ) → Some n ≡ refusal (route_inputs p route) → refused n ≡ public_route_eval p route
  unfolding public_route_eval
  eval_refused n e = refuses n _ _ e

  pub cost_refused : (n : ℕ) → Some n ≡ refusal (route_inputs p route) → refused n ≡ public_effective_cost p route
  unfolding public_effective_cost
  cost_refused n e = refuses n _ _ e

  module _ (e : None ≡ refusal (route_inputs p route)) where
    pub eval_answered : (l : RouteLimits) (x : Option RouteEval) → l ≡ limits_of p.vehicle → x ≡ route_eval p.places p.roads (depot p) l route → answered x ≡ public_route_eval p route
    unfolding public_route_eval
    eval_answered l x g f = answers _ x _ e (f ∙ ap (λ (k : RouteLimits). route_eval p.places p.roads (depot p) k route) g)

    pub cost_answered : (l : RouteLimits) (x : Float) → l ≡ limits_of p.vehicle → x ≡ effective_cost p.places p.roads (depot p) l route → answered x ≡ public_effective_cost p route
    unfolding public_effective_cost
    cost_answered l x g f = answers _ x _ e (f ∙ ap (λ (k : RouteLimits). effective_cost p.places p.roads (depot p) k route) g)
