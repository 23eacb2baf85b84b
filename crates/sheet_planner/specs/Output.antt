-- A text in the slice that is lent for it. Assumes nothing.
use Rattle.std.specs.Prelude.{ℕ, cond, List, length, ltb, Option, None, Some}
use Rattle.std.proofs.lemmas.List.Edits.{sets}

-- how many bytes are printed, none where there is no room, and the slice after it
pub record Output : Type 0 where
  pub answer : Option ℕ
  pub bytes : List ℕ

abbrev pub output : Option ℕ → List ℕ → Output
output answer bytes = record { answer = answer; bytes = bytes }

-- A slice of fewer than 6,000 bytes stays as it is; in any other the text stands from the first byte on, and the rest stays.
-- No text that a sheet prints is longer (`listing_fits`, listing).
unfoldable pub into : List ℕ → List ℕ → Output
into out text = cond (ltb (length out) 6000) (output None out) (output (Some (length text)) (sets out 0 text))
