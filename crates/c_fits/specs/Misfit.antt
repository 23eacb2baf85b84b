-- Whether the slices for an answer have its lengths, and whether the byte `given` is one. Assumes nothing.
use Rattle.std.specs.Prelude.{ℕ, cond, eqb, leb, Result, Ok, Err}
use Rattle.c_fits.specs.declared.Fault.{Fault}
use Rattle.c_fits.specs.declared.Fault.TheVariants.{Length, Given}

-- 100 where the slice of floats has another length than `asked` or that of numbers than `wanted`, 101 where `given` is over 7, else 0
unfoldable pub misfit : ℕ → ℕ → ℕ → ℕ → ℕ → ℕ
misfit floats asked numbers wanted given = cond (eqb floats asked) (cond (eqb numbers wanted) (cond (leb given 7) 0 101) 100) 100

-- the number of a fault
abbrev pub code : Fault → ℕ
code Length = 100
code Given = 101

-- what a test found, as a number
abbrev pub code_of : {A : Type 0} → Result A Fault → ℕ
code_of (Ok a) = 0
code_of (Err m) = code m
