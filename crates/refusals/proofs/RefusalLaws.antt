-- A call's refusal, group after group as the code asks them. Assumes nothing.
use Prim.Native.Nat.{ℕ}
use mathlib.Core.Path.{◌≡◌, sym, ap, ◌∙◌}
use mathlib.Core.Bool.{Bool, true}
use mathlib.Core.List.{List}
use Rattle.std.specs.Prelude.{Option, None, Some}
use Rattle.refusal_rows.specs.models.declared.vehicle.VehicleBreak.{VehicleBreak}
use Rattle.refusal_rows.specs.models.Problem.{Problem}
use Rattle.refusal_rows.specs.models.Valid.{rest_passes}
use Rattle.refusal_rows.specs.plan.Plan.{Slices}
use Rattle.refusal_rows.specs.entry.declared.Work.{Work}
use Rattle.refusal_rows.specs.entry.Table.{refusal}
use Rattle.refusal_rows.specs.entry.Given.{problem_inputs, route_inputs, schedule_inputs, eliminate_inputs, minimise_inputs}
use Rattle.refusal_rows.specs.entry.Rows.{problem_rows, route_rows, plan_rows, work_rows, minimise_rows, or_else, problem_refusal, route_refusal, schedule_refusal, eliminate_refusal, minimise_refusal}

-- ---- the first group that has a refusal

first_group : (n : ℕ) (x y : Option ℕ) → Some n ≡ x → Some n ≡ or_else x y
first_group n x y e = ap (λ (o : Option ℕ). or_else o y) e

next_group : (o x y : Option ℕ) → None ≡ x → o ≡ y → o ≡ or_else x y
next_group o x y e f = f ∙ ap (λ (z : Option ℕ). or_else z y) e

module _ (p : Problem) where
  pub refused_problem : (o : Option ℕ) → o ≡ problem_rows true p → o ≡ refusal (problem_inputs p)
  refused_problem o e = e ∙ sym (problem_refusal p)

  module _ (route : List ℕ) where
    pub route_first : (n : ℕ) → Some n ≡ problem_rows true p → Some n ≡ refusal (route_inputs p route)
    route_first n e = first_group n _ _ e ∙ sym (route_refusal p route)

    pub route_next : (o : Option ℕ) → None ≡ problem_rows true p → o ≡ route_rows p route → o ≡ refusal (route_inputs p route)
    route_next o e f = next_group o _ _ e f ∙ sym (route_refusal p route)

    module _ (b : VehicleBreak) (beside : Bool) (eb : beside ≡ rest_passes (Some b)) where
      from_break : (o : Option ℕ) → o ≡ problem_rows beside p → o ≡ problem_rows (rest_passes (Some b)) p
      from_break o e = e ∙ ap (λ (t : Bool). problem_rows t p) eb

      pub schedule_first : (n : ℕ) → Some n ≡ problem_rows beside p → Some n ≡ refusal (schedule_inputs p b route)
      schedule_first n e = first_group n _ _ (from_break _ e) ∙ sym (schedule_refusal p b route)

      pub schedule_next : (o : Option ℕ) → None ≡ problem_rows beside p → o ≡ route_rows p route → o ≡ refusal (schedule_inputs p b route)
      schedule_next o e f = next_group o _ _ (from_break _ e) f ∙ sym (schedule_refusal p b route)

  module _ (s : Slices) (w : Work) where
    pub eliminate_first : (n : ℕ) → Some n ≡ problem_rows true p → Some n ≡ refusal (eliminate_inputs p s w)
    eliminate_first n e = first_group n _ _ e ∙ sym (eliminate_refusal p s w)

    pub minimise_first : (n : ℕ) (tape : List ℕ) (limit : ℕ) → Some n ≡ problem_rows true p → Some n ≡ refusal (minimise_inputs p s tape limit w)
    minimise_first n tape limit e = first_group n _ _ e ∙ sym (minimise_refusal p s w tape limit)

    module _ (e : None ≡ problem_rows true p) where
      pub eliminate_plan : (n : ℕ) → Some n ≡ plan_rows p s → Some n ≡ refusal (eliminate_inputs p s w)
      eliminate_plan n f = next_group _ _ _ e (first_group n _ _ f) ∙ sym (eliminate_refusal p s w)

      pub eliminate_work : (o : Option ℕ) → None ≡ plan_rows p s → o ≡ work_rows w → o ≡ refusal (eliminate_inputs p s w)
      eliminate_work o f k = next_group o _ _ e (next_group o _ _ f k) ∙ sym (eliminate_refusal p s w)

      pub minimise_plan : (n : ℕ) (tape : List ℕ) (limit : ℕ) → Some n ≡ plan_rows p s → Some n ≡ refusal (minimise_inputs p s tape limit w)
      minimise_plan n tape limit f = next_group _ _ _ e (first_group n _ _ f) ∙ sym (minimise_refusal p s w tape limit)

      pub minimise_own : (tape : List ℕ) (limit : ℕ) (o : Option ℕ) → None ≡ plan_rows p s → o ≡ minimise_rows tape limit w → o ≡ refusal (minimise_inputs p s tape limit w)
      minimise_own tape limit o f k = next_group o _ _ e (next_group o _ _ f k) ∙ sym (minimise_refusal p s w tape limit)

pub ruleset route_laws = (route_first, route_next)

pub ruleset schedule_laws = (schedule_first, schedule_next)

pub ruleset eliminate_laws = (eliminate_first, eliminate_plan, eliminate_work)

pub ruleset minimise_laws = (minimise_first, minimise_plan, minimise_own)
