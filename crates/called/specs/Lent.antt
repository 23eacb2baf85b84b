-- What a call of a list is lent. Assumes nothing.
use Rattle.std.specs.Prelude.{ℕ, ◌≤◌}
use Rattle.call_words.specs.declared.Words.{Words}

-- the tape words and work cells that a call is lent are there
pub record Lent (w : Words) (words work cells : ℕ) : Type 0 where
  pub tape : w.tape ≤ words
  pub small : w.work.u16_cells ≤ work
  pub wide : w.work.f64_cells ≤ cells
