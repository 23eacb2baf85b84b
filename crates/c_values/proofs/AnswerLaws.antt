-- Answers in the slices that are lent for them, as the code writes them. Assumes nothing.
use Rattle.std.specs.Prelude.{Result, Ok, Err}
use Prim.Native.Nat.{ℕ}
use mathlib.Core.Path.{◌≡◌, refl, sym, ap, ◌∙◌}
use mathlib.Core.List.{List, [], ◌∷◌}
use native.Mathlib.Omega.{arith}
use lib.Dec.{eqb}
use lib.ListN.{length, set}
use lib.Ieee.{Float}
use borrow.Author.Tests.{eq-eqb, ne_eqb, eqb-true}
use Rattle.planner.specs.laws.Loops.{cond_rule}
use Rattle.planner.specs.plan.Plan.{Slices}
use Rattle.planner.specs.local_search.declared.rounds.Reduction.{Reduction}
use Rattle.planner.specs.Calls.{Answer, refused, Reply}
use Rattle.planner.specs.entry.refusal.declared.Refusal.{Refusal}
use Rattle.planner.specs.Told.{told, FreeIfAnswered}
use Rattle.c_fits.specs.declared.Fault.{Fault}
use Rattle.c_fits.specs.declared.Fault.TheVariants.{Length, Given}
use Rattle.c_fits.specs.Misfit.{code, misfit}
use Rattle.c_values.specs.Said.{Values, values, Said, says, put, question, reduction_values, plan_call, FreeIfDone}

-- ---- a slice of one cell, when it is written

pub one_cell : {A : Type 0} (xs : List A) (a : A) → length xs ≡ 1 → set xs 0 a ≡ a ∷ []
one_cell [] a h = absurd (omega arith)
one_cell (_ ∷ []) a h = refl
one_cell (_ ∷ (_ ∷ _)) a h = absurd (omega arith)

-- ---- "A refusal returns its number only and changes no buffer."

pub put_refused : {A : Type 0} (into : A → Values) (out : Values) (n : ℕ) → put into out (refused n) ≡ record { code = n; after = out }
put_refused into out n = refl

-- ---- no fault has the number 0

pub fault_told : (f : Fault) (m : ℕ) → m ≡ code f → m ≡ 0 → ⊥
fault_told Length m e z = omega (arith, e, z)
fault_told Given m e z = omega (arith, e, z)

-- ---- a question: what it returns where a slice or `given` does not fit, and where all fit

module _ (floats asked numbers wanted given m : ℕ) (e : m ≡ misfit floats asked numbers wanted given) (h : m ≡ 0) where
  pub floats_fit : floats ≡ asked
  unfolding misfit
  floats_fit =
      cond_rule (λ (r : ℕ). r ≡ 0 → floats ≡ asked) (eqb floats asked) (λ t _. eqb-true floats asked t) (λ _ z. absurd (omega arith)) (sym e ∙ h)

  pub numbers_fit : numbers ≡ wanted
  unfolding misfit
  numbers_fit =
      cond_rule (λ (r : ℕ). r ≡ 0 → numbers ≡ wanted) (eqb floats asked)
      (λ _. cond_rule (λ (r : ℕ). r ≡ 0 → numbers ≡ wanted) (eqb numbers wanted) (λ t _. eqb-true numbers wanted t) (λ _ z. absurd (omega arith)))
      (λ _ z. absurd (omega arith)) (sym e ∙ h)

module _ {A : Type 0} (into : A → Values) (asked wanted given : ℕ) (fs : List Float) (ns : List ℕ) (m : ℕ)
    (e : m ≡ misfit (length fs) asked (length ns) wanted given) where
  pub misfit_said : (a : Answer A) → (m ≡ 0 → ⊥) → says m fs ns ≡ question into asked wanted given (values fs ns) a
  unfolding question
  misfit_said a h = rw (← e, ne_eqb m 0 h)

  pub answer_said : m ≡ 0 → (r : ℕ) (fs₁ : List Float) (ns₁ : List ℕ) (a b : Answer A) → says r fs₁ ns₁ ≡ put into (values fs ns) b → b ≡ a
      → says r fs₁ ns₁ ≡ question into asked wanted given (values fs ns) a
  unfolding question
  answer_said h r fs₁ ns₁ a b f g = rw (← e, eq-eqb m 0 h, ← g) f

-- ---- a call that changes a plan

module _ (given : ℕ) (counts : List ℕ) (first : Slices) (m : ℕ) (e : m ≡ misfit 0 0 (length counts) 3 given) where
  pub misfit_replied : (r : Reply) → (m ≡ 0 → ⊥) → record { said = says m [] counts; slices = first } ≡ plan_call given counts first r
  unfolding plan_call
  misfit_replied r h = rw (← e, ne_eqb m 0 h, misfit_said reduction_values 0 3 given [] counts m e r.answer h)

  pub call_replied : m ≡ 0 → (code : ℕ) (counts₁ : List ℕ) (x : Answer Reduction) (s : Slices) (r : Reply)
      → says code [] counts₁ ≡ put reduction_values (values [] counts) x → record { answer = x; slices = s } ≡ r
      → record { said = says code [] counts₁; slices = s } ≡ plan_call given counts first r
  unfolding plan_call
  call_replied h code counts₁ x s r f g =
      rw (← g, ← e, eq-eqb m 0 h, answer_said reduction_values 0 3 given [] counts m e h code [] counts₁ x x f refl)

-- ---- the cells that a call is lent to work in

pub reply_free : {A : Type 0} (a : Result Reduction Refusal) (code : ℕ) (counts counts₁ : List ℕ) (before after : A)
    → says code [] counts₁ ≡ put reduction_values (values [] counts) (told a) → FreeIfAnswered a before after → FreeIfDone code before after
reply_free (Ok d) code counts counts₁ before after e f h = absurd (h (ap (λ (s : Said). s.code) e))
reply_free (Err r) code counts counts₁ before after e f h = f
