-- What the call on a sheet returns and writes. Assumes nothing.
use Rattle.std.specs.Prelude.{ℕ, cond, List, [], ◌∷◌, length, eqb}
use Rattle.std.proofs.lemmas.List.Edits.{sets}

-- the number that the call returns, the bytes, and their number
pub record Prints : Type 0 where
  pub code : ℕ
  pub out : List ℕ
  pub written : List ℕ

abbrev pub prints : ℕ → List ℕ → List ℕ → Prints
prints code out written = record { code = code; out = out; written = written }

-- 100 where `out` has not 6,000 bytes or `written` not one number, and nothing is written; else the text stands from the first byte on
unfoldable pub sheet_call : List ℕ → List ℕ → List ℕ → Prints
sheet_call out written text =
    cond (eqb (length out) 6000) (cond (eqb (length written) 1) (prints 0 (sets out 0 text) (length text ∷ [])) (prints 100 out written)) (prints 100 out written)
