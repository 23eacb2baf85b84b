-- The call on a sheet: slices of other lengths, and a text that is written. Assumes nothing.
use Prim.Native.Nat.{ℕ, ◌≤◌}
use mathlib.Core.Path.{◌≡◌, ap}
use mathlib.Core.List.{List, [], ◌∷◌}
use mathlib.Core.Bool.{Bool, true, false, cond}
use Rattle.std.specs.Prelude.{Option, Some}
use native.Mathlib.Omega.{arith}
use borrow.Author.Tests.{eq-eqb, le-ltb}
use lib.Dec.{eqb}
use lib.ListN.{length}
use lib.Seq.{sets}
use Rattle.c_reports.specs.sheet_planner.Output.{Output, output, into}
use Rattle.c_answers.specs.c_fits.Misfit.{misfit}
use Rattle.c_answers.specs.CValuesAnswerLaws.{floats_fit, numbers_fit}
use Rattle.c_reports.specs.Reports.{printed_code, bytes_written}
use Rattle.cobrwydd.specs.Sheets.{Prints, prints, sheet_call}

module _ (out written text : List ℕ) (m : ℕ) (e : m ≡ misfit (length out) 6000 (length written) 1 0) where
  -- nothing is written
  pub sheet_misfit : (m ≡ 0 → ⊥) → prints m out written ≡ sheet_call out written text
  unfolding sheet_call misfit
  sheet_misfit h = go (eqb (length out) 6000) (eqb (length written) 1) e
    where
      go : (a b : Bool) → m ≡ cond a (cond b 0 100) 100 → prints m out written ≡ cond a (cond b (prints 0 (sets out 0 text) (length text ∷ [])) (prints 100 out written)) (prints 100 out written)
      go true true f = absurd (h f)
      go true false f = ap (λ (k : ℕ). prints k out written) f
      go false b f = ap (λ (k : ℕ). prints k out written) f

  module _ (h : m ≡ 0) where
    pub one_number : length written ≡ 1
    one_number = numbers_fit (length out) 6000 (length written) 1 0 m e h

    six_thousand : length out ≡ 6000
    six_thousand = floats_fit (length out) 6000 (length written) 1 0 m e h

    module _ (after : List ℕ) (r : Option ℕ) (w : output r after ≡ into out text) where
      -- there is room
      is_in : output r after ≡ output (Some (length text)) (sets out 0 text)
      unfolding into
      is_in =
          let room : 6000 ≤ length out = omega (arith, six_thousand) in
          rw (le-ltb (length out) 6000 room) at w

      pub text_there : (code : ℕ) (number : List ℕ) → code ≡ printed_code r → number ≡ bytes_written r written → prints code after number ≡ sheet_call out written text
      unfolding sheet_call
      text_there code number f g =
          let a : r ≡ Some (length text) = ap (λ (o : Output). o.answer) is_in in
          let b : after ≡ sets out 0 text = ap (λ (o : Output). o.bytes) is_in in
          rw (f, g, a, b, eq-eqb (length out) 6000 six_thousand, eq-eqb (length written) 1 one_number)
