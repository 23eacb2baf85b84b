-- Row 6 in code: the cells in which the stops so far are marked. Assumes nothing.
use Prim.Native.Nat.{ℕ, ◌+◌, ◌<◌}
use mathlib.Core.Bool.{Bool, false}
use mathlib.Core.List.{List, [], ◌∷◌, ◌++◌}
use native.Mathlib.Numerals.{add-one}
use lib.ListN.{length, get_or, take, replicate, length-replicate, get_or-replicate}
use lib.Seq.{take-suc}
use Rattle.stop_checks.specs.Marks.{Marks}

pub marks_start : Marks (replicate 256 false) []
marks_start = record { cells = length-replicate {A = Bool} 256 false; each = λ x h. get_or-replicate {A = Bool} 256 x false false h }

pub marks_more : (seen : List Bool) (stops : List ℕ) (i : ℕ) → Marks seen (take i stops ++ get_or stops i 0 ∷ []) → i < length stops → Marks seen (take (i + 1) stops)
marks_more seen stops i m h = rw (add-one i, take-suc stops i 0 h) m
