-- Which numbers stand for a value of a type, and for which. Assumes nothing.
use Rattle.std.specs.Prelude.{ℕ, ℤ, Bool, true, false, cond, ltb, eqb, Float, Option, Some, None}
use Rattle.std.specs.Float.{binary64}
use Rattle.std.specs.Float.Ieee.{of_bits}
use Rattle.std.specs.Int.{w32}
use Rattle.std.proofs.Common.{to_z}

-- a number below a bound, itself
abbrev pub narrow : ℕ → ℕ → Option ℕ
narrow bound n = cond (ltb n bound) (Some n) None

-- 0 or 1
abbrev pub flag_of : ℕ → Option Bool
flag_of n = cond (eqb n 0) (Some false) (cond (eqb n 1) (Some true) None)

-- a two's complement of 32 bits
abbrev pub signed : ℕ → Option ℤ
signed n = cond (ltb n 4294967296) (Some (to_z w32 n)) None

-- the bits of a float
abbrev pub float : ℕ → Option Float
float n = Some (of_bits binary64 n)
