-- The number that C is told after a list of calls and after a sheet, and the number of bytes. Assumes nothing.
use Rattle.std.specs.Prelude.{ℕ, List, [], ◌∷◌, Option, None, Some, Result, Ok, Err}
use Rattle.call_lists.specs.declared.Malformed.{Malformed}

-- 102 where the words are malformed
abbrev pub ran_code : Result ℕ Malformed → ℕ
ran_code (Ok n) = 0
ran_code (Err e) = 102

-- 100 where there was no room
abbrev pub printed_code : Option ℕ → ℕ
printed_code None = 100
printed_code (Some n) = 0

-- the number of bytes, in a slice of one number
abbrev pub bytes_written : Option ℕ → List ℕ → List ℕ
bytes_written None written = written
bytes_written (Some n) written = n ∷ []
