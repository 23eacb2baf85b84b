-- The refusal table row by row: the sheet's call with one fault at a time, with several, and at the edge of each row; by computation. Assumes nothing.
use Rattle.std.specs.Prelude.{ℕ, ◌≡◌, refl, List, [], ◌∷◌, pos, Float, None}
use Rattle.std.specs.Prelude.{Option, None, Some}
use Rattle.std.specs.Float.{nan, binary64}
use Rattle.std.specs.Float.Ieee.{of_int, of_bits}
use Rattle.lateness_bound.specs.floats.Binary64.{1e12}
use Rattle.lateness_bound.specs.models.declared.vehicle.Vehicle.{Vehicle}
use Rattle.lateness_bound.specs.models.Problem.{Problem, problem}
use Rattle.entry.specs.Table.{refusal}
use Rattle.entry.specs.Given.{minimise_inputs}
use Rattle.planner.specs.Opened.{opened}

abbrev num : ℕ → Float
num n = of_int binary64 (pos n)

-- −0.0, whose sign bit is set
abbrev minus_zero : Float
minus_zero = of_bits binary64 0x8000_0000_0000_0000

abbrev van : ℕ → Vehicle
van depot =
    record { capacity = pos 10; depot_id = depot; fixed_cost = num 0; cost_per_distance = num 1; max_distance = None; max_duration = None; rest = None }

-- the sheet's problem with a depot, and with the service, ready and flags of place 1, whose due is 1 and whose penalty is a NaN; and times
abbrev sheet : ℕ → Float → Float → ℕ → List Float → Problem
sheet depot service ready flags times =
    problem 3 (pos 0 ∷ pos 4 ∷ pos 5 ∷ []) (num 0 ∷ service ∷ num 0 ∷ []) (num 0 ∷ ready ∷ num 0 ∷ []) (num 0 ∷ num 1 ∷ num 0 ∷ []) (num 0 ∷ nan ∷ num 0 ∷ [])
    (0 ∷ flags ∷ 0 ∷ []) (num 0 ∷ num 10 ∷ num 10 ∷ num 10 ∷ num 0 ∷ num 5 ∷ num 10 ∷ num 5 ∷ num 0 ∷ []) times (van depot)

-- what minimise is refused with: lengths, stops, tape, M, u16 and f64 work cells
abbrev said : Problem → List ℕ → List ℕ → List ℕ → ℕ → ℕ → ℕ → Option ℕ
said p lengths stops tape limit u16_cells f64_cells =
    refusal (minimise_inputs p (record { lengths = lengths; stops = stops }) tape limit
    (record { u16_cells = u16_cells; f64_cells = f64_cells }))

-- a problem without a fault, at the edge of row 2; a call without one, at the edges of rows 8 and 9
abbrev good : Problem
good = sheet 0 1e12 (num 1) 0 []

abbrev called : Problem → Option ℕ
called p = said p (1 ∷ 1 ∷ []) (1 ∷ 2 ∷ []) (7 ∷ []) 65535 8192 2048

abbrev replies : List (Option ℕ)
replies =
    called good
    -- a window that closes as it opens
    ∷ called (sheet 0 1e12 (num 1) 1 [])
    -- one fault: of the problem, the plan, the call
    ∷ called (sheet 0 1e12 (num 1) 0 (num 0 ∷ []))
    ∷ called (sheet 0 minus_zero (num 1) 0 [])
    ∷ called (sheet 0 nan (num 1) 0 [])
    ∷ called (sheet 0 1e12 (num 1) 4 [])
    ∷ called (sheet 0 1e12 (num 1) 2 [])
    ∷ called (sheet 0 1e12 (num 2) 1 [])
    ∷ called (sheet 3 1e12 (num 1) 0 [])
    ∷ said good (1 ∷ 2 ∷ []) (1 ∷ 2 ∷ []) (7 ∷ []) 65535 8192 2048
    ∷ said good (1 ∷ 1 ∷ []) (1 ∷ 1 ∷ []) (7 ∷ []) 65535 8192 2048
    ∷ said good (1 ∷ 1 ∷ []) (1 ∷ 0 ∷ []) (7 ∷ []) 65535 8192 2048
    ∷ said good (1 ∷ 1 ∷ []) (1 ∷ 3 ∷ []) (7 ∷ []) 65535 8192 2048
    ∷ said good (1 ∷ 1 ∷ []) (1 ∷ 2 ∷ []) [] 65535 8192 2048
    ∷ said good (1 ∷ 1 ∷ []) (1 ∷ 2 ∷ []) (7 ∷ []) 65536 8192 2048
    ∷ said good (1 ∷ 1 ∷ []) (1 ∷ 2 ∷ []) (7 ∷ []) 65535 8191 2048
    ∷ said good (1 ∷ 1 ∷ []) (1 ∷ 2 ∷ []) (7 ∷ []) 65535 8192 2047
    -- several
    ∷ called (sheet 3 nan (num 2) 1 [])
    ∷ said (sheet 3 1e12 (num 2) 1 []) (1 ∷ 1 ∷ []) (1 ∷ 1 ∷ []) (7 ∷ []) 65535 8192 2048
    ∷ said good (1 ∷ 2 ∷ []) (1 ∷ 1 ∷ []) [] 65535 8192 2048
    ∷ said good (1 ∷ 1 ∷ []) (1 ∷ 2 ∷ []) [] 65536 0 2048
    ∷ said good (1 ∷ 1 ∷ []) (1 ∷ 2 ∷ []) (7 ∷ []) 65536 0 2048
    ∷ []

pub refusals : replies
    ≡ None ∷ None
    ∷ Some 1 ∷ Some 2 ∷ Some 2 ∷ Some 2 ∷ Some 2 ∷ Some 3 ∷ Some 4 ∷ Some 5 ∷ Some 6 ∷ Some 6 ∷ Some 6 ∷ Some 7 ∷ Some 8 ∷ Some 9 ∷ Some 9
    ∷ Some 2 ∷ Some 3 ∷ Some 5 ∷ Some 7 ∷ Some 8 ∷ []
unfolding opened
refusals = refl
