-- What a function of the C interface returns, and what it leaves in the slices that it is lent for its answer. Assumes nothing.
use Rattle.std.specs.Prelude.{ℕ, ◌≡◌, List, [], ◌∷◌, Bool, cond, length, eqb, Float, Option, Some, None}
use Rattle.planner.specs.floats.Binary64.{0f}
use Rattle.planner.specs.plan.Plan.{Slices}
use Rattle.planner.specs.local_search.declared.rounds.Reduction.{Reduction}
use Rattle.planner.specs.models.declared.customer.TimeWindow.{TimeWindow}
use Rattle.planner.specs.break_clock.declared.route_eval.RouteEval.{RouteEval}
use Rattle.planner.specs.Calls.{Answer, refused, answered, Reply}
use Rattle.planner.specs.Told.{slices_of}
use Rattle.c_fits.specs.Misfit.{misfit}

-- ---- the slices for an answer

-- their contents; a function that has none of a kind has [] there
pub record Values : Type 0 where
  pub floats : List Float
  pub numbers : List ℕ

abbrev pub values : List Float → List ℕ → Values
values floats numbers = record { floats = floats; numbers = numbers }

-- the number that a function returns, and the slices after it
pub record Said : Type 0 where
  pub code : ℕ
  pub after : Values

abbrev pub says : ℕ → List Float → List ℕ → Said
says code floats numbers = record { code = code; after = values floats numbers }

-- "A refusal returns its number only and changes no buffer."; otherwise 0, and the answer in the slices
abbrev pub put : {A : Type 0} → (A → Values) → Values → Answer A → Said
put into out (refused n) = record { code = n; after = out }
put into out (answered a) = record { code = 0; after = into a }

-- 100 and 101 come before everything else, and change nothing
abbrev pub unless_misfit : ℕ → Values → Said → Said
unless_misfit n out said = cond (eqb n 0) said (record { code = n; after = out })

-- a question: its answer goes into `asked` floats and `wanted` numbers
unfoldable pub question : {A : Type 0} → (A → Values) → ℕ → ℕ → ℕ → Values → Answer A → Said
question into asked wanted given out a =
    unless_misfit (misfit (length out.floats) asked (length out.numbers) wanted given) out (put into out a)

-- ---- answers as values

-- `route_feasible`: 1 for yes, 0 for no
abbrev pub checked_values : Bool → Values
checked_values b = values [] (cond b 1 0 ∷ [])

-- `effective_cost`, `route_distance`, `lateness_bound`, `gain_floor`: the number
abbrev pub number_values : Float → Values
number_values x = values (x ∷ []) []

-- A route that passes. Floats: distance, duration, lateness, lateness cost, start of the break; numbers: whether it passes, whether the break is taken,
-- at which stop. What there is not is 0.
abbrev pub evaluated : Float → Float → Float → Float → Option (ℕ × Float) → Values
evaluated distance duration lateness cost None = values (distance ∷ duration ∷ lateness ∷ cost ∷ 0f ∷ []) (1 ∷ 0 ∷ 0 ∷ [])
evaluated distance duration lateness cost (Some (stop, start)) = values (distance ∷ duration ∷ lateness ∷ cost ∷ start ∷ []) (1 ∷ 1 ∷ stop ∷ [])

-- `route_eval`, `schedule`
abbrev pub eval_values : Option RouteEval → Values
eval_values None = values (0f ∷ 0f ∷ 0f ∷ 0f ∷ 0f ∷ []) (0 ∷ 0 ∷ 0 ∷ [])
eval_values (Some e) = evaluated e.distance e.duration e.lateness e.lateness_cost e.rest

-- `TimeWindow::new`. Floats: ready, due; numbers: whether there is a window.
abbrev pub window_values : Option TimeWindow → Values
window_values None = values (0f ∷ 0f ∷ []) (0 ∷ [])
window_values (Some w) = values (w.ready ∷ w.due ∷ []) (1 ∷ [])

-- ---- the two calls that change a plan

-- "A call returns r"; "Results carry steps and draws.": r, steps, draws
abbrev pub reduction_values : Reduction → Values
reduction_values x = values [] (x.routes ∷ x.counts.steps ∷ x.counts.draws ∷ [])

-- what a call returns and writes into its slice of counts, and both slices of the plan after it
pub record Replied : Type 0 where
  pub said : Said
  pub slices : Slices

abbrev pub replies : ℕ → List ℕ → List ℕ → List ℕ → Replied
replies code counts lengths stops = record { said = says code [] counts; slices = slices_of lengths stops }

-- said as by a question; the plan is as the call leaves it, or stays where a slice or `given` does not fit
unfoldable pub plan_call : ℕ → List ℕ → Slices → Reply → Replied
plan_call given counts first r =
    record {
      said = question reduction_values 0 3 given (values [] counts) r.answer;
      slices = cond (eqb (misfit 0 0 (length counts) 3 given) 0) r.slices first;
    }

-- "A refusal .. changes no buffer": of the cells that are lent to work in, before and after. They are free where 0 is returned.
abbrev pub FreeIfDone : {A : Type 0} → ℕ → A → A → Type 0
FreeIfDone code before after = (code ≡ 0 → ⊥) → after ≡ before
