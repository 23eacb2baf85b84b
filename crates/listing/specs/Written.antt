-- A text that is written into a slice from a position on: the rest of the slice stays as it is. Assumes nothing.
use Rattle.std.specs.Prelude.{ℕ, ◌+◌, ◌≤◌, ◌≡◌, List, length}
use Rattle.std.proofs.lemmas.List.Edits.{sets}

-- the text has room from the position on
pub record Room (out : List ℕ) (at : ℕ) (x : List ℕ) : Type 0 where
  pub fits : at + length x ≤ length out

-- `after` is `out` with the text written from `at` on, and `p` is the position behind it
pub record Written (out : List ℕ) (at : ℕ) (x after : List ℕ) (p : ℕ) : Type 0 where
  pub bytes_are : after ≡ sets out at x
  pub place : p ≡ at + length x
