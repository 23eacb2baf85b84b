-- The problem of a sheet and its request, one after the other. Assumes nothing.
use Rattle.std.specs.Prelude.{Result, Ok, Err}
use Rattle.std.specs.Result.{IsErrAnd}
use Rattle.sheet_draws.specs.sheet_text.refusal.declared.Refusal.{Refusal}
use Rattle.sheet_whole.specs.declared.parts.Sheet.{Sheet as SheetRead}
use Rattle.std.proofs.lemmas.Result.{err_from_is_err_and}
use Rattle.sheet_draws.specs.sheet_text.refusal.Number.{number}
use Rattle.sheet_whole.specs.Whole.{told_result, SheetWithin}
use Prim.Native.Nat.{ℕ, ◌≤◌}
use mathlib.Core.Path.{◌≡◌, refl, ap, sym, ◌∙◌, subst}
use mathlib.Core.List.{List}
use lib.ListN.{length}
use Rattle.sheet_draws.specs.models.Problem.{Problem}
use Rattle.sheet_draws.specs.sheet_text.declared.Text.{Text}
use Rattle.sheet_draws.specs.sheet_text.Text.{Reading, refused, got, next, map_reading}
use Rattle.sheet_draws.specs.sheet_text.Told.{Reads}
use Rattle.sheet_draws.specs.sheet_format.Form.{Sheet, whole_problem, draws, routes, last_run, slices_of, sections, sheet}
use Rattle.sheet_draws.specs.sheet_format.Faults.{not_too_long}
use Rattle.sheet_whole.specs.Request.{Request, request_of, request}

abbrev sheet_of : Problem → Request → Sheet
sheet_of p q = record { problem = p; plan = q.plan; tape = q.tape; run = q.run }

-- ---- three readings, one after the other, are one reading

module _ {A B C D E : Type 0} (f : A → ℕ → Reading B) (g : B → ℕ → Reading C) (mk : A → B → C → D) (out : D → E) where
  third : (a : A) (b : B) (r : Reading C) → next (next r (λ c l. got (mk a b c) l)) (λ d l. got (out d) l) ≡ next r (λ c l. got (out (mk a b c)) l)
  third a b (refused n) = refl
  third a b (got c l) = refl

  second : (a : A) (r : Reading B)
      → next (next r (λ b j. next (g b j) (λ c l. got (mk a b c) l))) (λ d l. got (out d) l) ≡ next r (λ b j. next (g b j) (λ c l. got (out (mk a b c)) l))
  second a (refused n) = refl
  second a (got b j) = third a b (g b j)

  first : (r : Reading A)
      → next (next r (λ a i. next (f a i) (λ b j. next (g b j) (λ c l. got (mk a b c) l)))) (λ d l. got (out d) l)
      ≡ next r (λ a i. next (f a i) (λ b j. next (g b j) (λ c l. got (out (mk a b c)) l)))
  first (refused n) = refl
  first (got a i) = second a (f a i)

-- ---- a sheet is its problem and its request

module _ (s : List ℕ) (at : ℕ) where
  problem_stops : (k : ℕ) → refused k ≡ whole_problem s at → refused k ≡ sections s at
  unfolding sections
  problem_stops k e = rw (← e)

  sections_by : (p : Problem) (i : ℕ) → got p i ≡ whole_problem s at → sections s at ≡ next (request s i) (λ q l. got (sheet_of p q) l)
  unfolding sections request
  sections_by p i ep = rw (← ep) (sym (first (λ tape j. routes s j) (λ plan l. last_run s l) (λ tape plan r. request_of tape (slices_of plan) r) (sheet_of p) (draws s i)))

-- ---- the same of a sheet that is not too long

module _ {t : Text} (short : length t.bytes.now ≤ 60000) where
  pub no_problem : {u : Text} {k : ℕ} → Reads whole_problem t (λ at. refused k) u → refused k ≡ sheet t.bytes.now t.at
  no_problem e = problem_stops _ _ _ e.read ∙ sym (not_too_long t.bytes.now t.at short)

  module _ {p : Problem} {u : Text} (ep : Reads whole_problem t (got p) u) where
    request_read : {r : Reading Request} → r ≡ request u.bytes.now u.at → r ≡ request t.bytes.now u.at
    request_read {r} e = subst (λ (s : List ℕ). r ≡ request s u.at) ep.same e

    pub no_request : {w : Text} {k : ℕ} → Reads request u (λ at. refused k) w → refused k ≡ sheet t.bytes.now t.at
    no_request e = ap (λ (r : Reading Request). next r (λ q l. got (sheet_of p q) l)) (request_read e.read) ∙ sym (sections_by _ _ p u.at ep.read) ∙ sym (not_too_long t.bytes.now t.at short)

    pub sheet_got : {q : Request} {w : Text} → Reads request u (got q) w → got (sheet_of p q) w.at ≡ sheet t.bytes.now t.at
    sheet_got e = ap (λ (r : Reading Request). next r (λ q l. got (sheet_of p q) l)) (request_read e.read) ∙ sym (sections_by _ _ p u.at ep.read) ∙ sym (not_too_long t.bytes.now t.at short)

-- ---- what a `?` hands on

pub err_mapped : {A S : Type 0} (f : A → S) (p : Reading S) (r : Result (A × ℕ) Refusal) (k : Refusal) → IsErrAnd r (λ y. y ≡ k) → refused (number k) ≡ p → map_reading f (told_result r) ≡ p
err_mapped f p r k e g =
    let x = err_from_is_err_and r e in
    rw (x.1, x.2) g

-- a sheet that was not read is within any bound
pub no_sheet_within : (r : Result (SheetRead × ℕ) Refusal) (k : Refusal) → IsErrAnd r (λ y. y ≡ k) → SheetWithin r
no_sheet_within (Ok (x, i)) k e = absurd e
no_sheet_within (Err x) k e = tt
