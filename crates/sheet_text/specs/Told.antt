-- What the answers of the readers in code mean: the refusal's number, or the value and the position after it. Assumes nothing.
use Rattle.std.specs.Prelude.{ℕ, ◌≡◌}
use Rattle.std.specs.Prelude.{Result, Ok, Err}
use Rattle.refusal.specs.Number.{number}
use Rattle.refusal.specs.declared.Refusal.{Refusal}
use Rattle.sheet_text.specs.Text.{Reading, refused, got, map_reading, Parser}
use Rattle.sheet_text.specs.declared.Text.{Text}

-- a value, the position after it being known, or why it is refused
abbrev pub told : {A : Type 0} → Result A Refusal → ℕ → Reading A
told (Ok a) at = got a at
told (Err r) at = refused (number r)

-- the same, seen through a function
abbrev pub told_as : {A B : Type 0} → (A → B) → Result A Refusal → ℕ → Reading B
told_as f r at = map_reading f (told r at)

-- what was read before, read from nothing
abbrev pub given : {A : Type 0} → Result A Refusal → Parser A
given r s at = told r at

-- what p reads, seen through a function
abbrev pub seen : {A B : Type 0} → (A → B) → Parser A → Parser B
seen f p s at = map_reading f (p s at)

-- From where the text stood to where it stands: what p reads there is what is told, and the bytes are the same.
pub record Reads {A : Type 0} (p : Parser A) (old : Text) (said : ℕ → Reading A) (new : Text) : Type 0 where
  pub read : said new.at ≡ p old.bytes.now old.at
  pub same : new.bytes.now ≡ old.bytes.now
