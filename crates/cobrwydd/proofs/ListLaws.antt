-- A list of calls: what is returned for `given`, for malformed words, and after the calls. Assumes nothing.
use Prim.Native.Nat.{ℕ}
use mathlib.Core.Path.{◌≡◌, refl, sym, subst}
use mathlib.Core.List.{List}
use mathlib.Core.Bool.{Bool, true, false, cond}
use Rattle.std.specs.Prelude.{Result, Ok, Err, Float}
use native.Mathlib.Omega.{arith}
use lib.Dec.{leb}
use Rattle.worth_questions.specs.models.Problem.{Problem}
use Rattle.c_reports.specs.call_lists.declared.Malformed.{Malformed}
use Rattle.c_reports.specs.call_words.declared.Buffers.{Buffers as Lent}
use Rattle.c_reports.specs.call_words.Words.{Buffers, buffers, well_formed}
use Rattle.c_reports.specs.call_words.Lent.{of_buffers, Keeps}
use Rattle.c_reports.specs.call_lists.Lists.{Untouched, AllRun, Leaves}
use Rattle.c_answers.specs.c_fits.Misfit.{misfit}
use Rattle.c_reports.specs.Reports.{ran_code}
use Rattle.cobrwydd.specs.Lists.{list_code, RanList}

-- where the test of `given` leaves 101 and where it leaves 0
over : (b : Bool) (m x : ℕ) → m ≡ cond b 0 101 → (m ≡ 0 → ⊥) → m ≡ cond b x 101
over true m x e h = absurd (h e)
over false m x e h = e

within : (b : Bool) (m x : ℕ) → m ≡ cond b 0 101 → m ≡ 0 → x ≡ cond b x 101
within true m x e h = refl
within false m x e h = absurd (omega arith)

-- the slices when the struct is gone: they are what it held last
pub slices_gone : {old new : Lent} {lengths stops work : List ℕ} {cells : List Float} {answers history : List ℕ} → Keeps old new
    → (old.lengths.ghost_name ≡ new.lengths.ghost_name → lengths ≡ new.lengths.now)
    → (old.stops.ghost_name ≡ new.stops.ghost_name → stops ≡ new.stops.now)
    → (old.work.ghost_name ≡ new.work.ghost_name → work ≡ new.work.now)
    → (old.cells.ghost_name ≡ new.cells.ghost_name → cells ≡ new.cells.now)
    → (old.answers.ghost_name ≡ new.answers.ghost_name → answers ≡ new.answers.now)
    → (old.history.ghost_name ≡ new.history.ghost_name → history ≡ new.history.now)
    → buffers lengths stops work cells answers history ≡ of_buffers new
slices_gone k l s w c a h =
    rw (l (sym k.same_lengths), s (sym k.same_stops), w (sym k.same_work), c (sym k.same_cells), a (sym k.same_answers), h (sym k.same_history))

module _ (given : ℕ) (calls tapes : List ℕ) (before : Buffers) (m : ℕ) (e : m ≡ misfit 0 0 0 0 given) where
  misfit_code : (m ≡ 0 → ⊥) → m ≡ list_code given calls tapes before
  unfolding list_code misfit
  misfit_code h = over (leb given 7) m _ e h

  formed_code : m ≡ 0 → (b : Bool) → well_formed calls tapes before ≡ b → cond b 0 102 ≡ list_code given calls tapes before
  unfolding list_code misfit
  formed_code h b f = rw (← f) (within (leb given 7) m _ e h)

  module _ (p : Problem) where
    pub list_misfit : (m ≡ 0 → ⊥) → RanList m given p calls tapes before before
    list_misfit h = record { number = misfit_code h; ran = λ z. absurd (h z); kept = λ _. refl }

    module _ (after : Buffers) (h : m ≡ 0) where
      malformed : Untouched calls tapes before after → RanList 102 given p calls tapes before after
      malformed u = record { number = formed_code h false u.malformed; ran = λ z. absurd (omega arith); kept = λ _. u.same }

      all_run : (n : ℕ) → AllRun n p calls tapes before after → RanList 0 given p calls tapes before after
      all_run n a = record { number = formed_code h true a.formed; ran = λ _. rw (← a.count) a; kept = λ z. absurd (z refl) }

      told : (r : Result ℕ Malformed) (code : ℕ) → code ≡ ran_code r → Leaves r p calls tapes before after → RanList code given p calls tapes before after
      told (Ok n) code f l = rw f (all_run n l)
      told (Err e) code f l = rw f (malformed l)

      pub list_told : (last : Buffers) (r : Result ℕ Malformed) (code : ℕ) → after ≡ last → code ≡ ran_code r → Leaves r p calls tapes before last
          → RanList code given p calls tapes before after
      list_told last r code e f l = told r code f (subst (λ (b : Buffers). Leaves r p calls tapes before b) (sym e) l)
