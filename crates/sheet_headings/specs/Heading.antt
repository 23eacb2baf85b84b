-- The heading of a section ("The rest: bound and sheet"). Assumes nothing.
use Rattle.std.specs.Prelude.{ℕ, ◌&&◌, List, leb}
use Rattle.sheet_text.specs.Text.{Parser, ◌>>=◌, ◌>>◌, pure, space, lf, check, byte, word, number}

-- A section's name and its count, which is judged when its token ends, before what follows is looked at:
-- "Row 12 is judged as soon as a count or length is read."
unfoldable pub heading : List ℕ → (least most refusal : ℕ) → Parser ℕ
heading name least most refusal = do
  word name
  byte space
  n ← number
  check (leb least n && leb n most) refusal
  byte lf
  pure n
