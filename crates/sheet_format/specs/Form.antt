-- The form of a sheet ("The rest: bound and sheet"), as a reader of bytes that runs: read front to back to its first fault, 11 or 12. The tokens
-- and numbers are those of sheet_text, Text. Assumes nothing.
use Rattle.std.specs.Prelude.{ℕ, zero, suc, ◌-◌, cond, ◌||◌, List, [], ◌∷◌, map, length, leb, eqb, Float}
use Rattle.std.specs.Prelude.{Option, None, Some}
use Rattle.models.specs.floats.Binary64.{0f}
use Rattle.models.specs.floats.Whole.{nat}
use Rattle.models.specs.declared.customer.TimeWindow.{TimeWindow}
use Rattle.models.specs.declared.vehicle.Vehicle.{Vehicle}
use Rattle.models.specs.Customer.{customers}
use Rattle.models.specs.Problem.{Problem, DistanceMatrix, matrix}
use Rattle.plan.specs.Plan.{Plan, Slices, flat, lengths_of}
use Rattle.sheet_fields.specs.sheet_text.Text.{Parser, ◌>>=◌, ◌>>◌, pure, bytes, space, lf, minus, check, byte, before, number, if_minus, signed, optional, ending, repeat, line}
use Rattle.sheet_headings.specs.Heading.{heading}
use Rattle.sheet_format.specs.declared.places.Place.{Place}
use Rattle.models.specs.declared.vehicle.VehicleBreak.{VehicleBreak}

-- ---- vehicle

-- "A lone - is none: either vehicle limit, .. PENALTY": a number that may be none, as a float
abbrev pub float_of : Option ℕ → Option Float
float_of None = None
float_of (Some n) = Some (nat n)

-- the same, and the byte b behind it
unfoldable pub optional_float_before : ℕ → Parser (Option Float)
optional_float_before b = do
  n ← before b optional
  pure (float_of n)

-- a limit, and the byte behind it
abbrev pub limit : ℕ → Parser (Option Float)
limit = optional_float_before

-- "capacity, depot, fixed, cost per distance, distance limit, duration limit". "The depot is place 0."
unfoldable pub vehicle_line : Parser Vehicle
vehicle_line = do
  capacity ← before space signed
  depot ← before space number
  check (eqb depot 0) 11
  fixed ← before space number
  per ← before space number
  most ← limit space
  latest ← limit lf
  pure
      (record {
        capacity = capacity;
        depot_id = 0;
        fixed_cost = nat fixed;
        cost_per_distance = nat per;
        max_distance = most;
        max_duration = latest;
        rest = None;
      })

-- "vehicle (1: ..)"
unfoldable pub vehicle : Parser Vehicle
vehicle = do
  heading (bytes "vehicle") 1 1 11
  vehicle_line

-- ---- places

-- "both of READY and DUE or neither"
unfoldable pub window : Parser (Option TimeWindow)
window =
    if_minus
    (do
      byte minus
      byte space
      byte minus
      pure None)
    (do
      ready ← before space number
      due ← number
      pure (Some (record { ready = nat ready; due = nat due })))

-- PENALTY, the last of its line
abbrev pub penalty : Parser (Option Float)
penalty = optional_float_before lf

-- "demand, service, READY, DUE, PENALTY"
unfoldable pub place : Parser Place
place = do
  demand ← before space signed
  service ← before space number
  w ← before space window
  p ← penalty
  pure (record { demand = demand; customer = record { service_duration = nat service; time_window = w; lateness_penalty = p } })

-- row 12: "places 0 or over 64"
unfoldable pub places : Parser (List Place)
places = do
  n ← heading (bytes "places") 1 64 12
  repeat n (λ left. place)

-- ---- distances, times, break

-- n lines of n numbers
abbrev pub square : ℕ → Parser (List (List ℕ))
square n = repeat n (λ left. line n)

-- "distances (as places)"
unfoldable pub distances : ℕ → Parser (List (List ℕ))
distances n = do
  heading (bytes "distances") n n 11
  square n

-- "times (0 or as places)"
unfoldable pub times : ℕ → Parser (List (List ℕ))
times n = do
  m ← heading (bytes "times") 0 n 11
  check (eqb m 0 || eqb m n) 11
  square m

-- rows one behind the other
abbrev pub row_by_row : List (List ℕ) → List Float
row_by_row rows = map nat (flat rows)

-- "Distances, and times if any, are lent N × N, row by row"
unfoldable pub roads : ℕ → Parser DistanceMatrix
roads n = do
  ds ← distances n
  ts ← times n
  pure (matrix n (row_by_row ds) (row_by_row ts))

-- "break (0 or 1: earliest, latest, duration)"
unfoldable pub rest_line : Parser (Option VehicleBreak)
rest_line = do
  earliest ← before space number
  latest ← before space number
  duration ← before lf number
  pure (Some (record { earliest = nat earliest; latest = nat latest; duration = nat duration }))

abbrev pub rest_lines : ℕ → Parser (Option VehicleBreak)
rest_lines zero = pure None
rest_lines (suc m) = rest_line

unfoldable pub break : Parser (Option VehicleBreak)
break = do
  m ← heading (bytes "break") 0 1 11
  rest_lines m

-- ---- draws, routes, run

-- "draws (one a line)"; row 12: "draws over 1,024"
unfoldable pub draws : Parser (List ℕ)
draws = do
  m ← heading (bytes "draws") 0 1024 12
  repeat m (λ left. before lf number)

-- "routes (length, that many stops)": a line, with room for so many stops. Row 12: "stops over 64 in all", judged as soon as the length is read.
unfoldable pub route_line : ℕ → Parser (List ℕ)
route_line room = do
  k ← number
  check (leb k room) 12
  byte (ending k)
  line k

unfoldable pub route_lines : ℕ → ℕ → Parser Plan
route_lines zero room = pure []
route_lines (suc n) room = do
  route ← route_line room
  rest ← route_lines n (room - length route)
  pure (route ∷ rest)

-- row 12: "routes over 64"
unfoldable pub routes : Parser Plan
routes = do
  m ← heading (bytes "routes") 0 64 12
  route_lines m 64

-- M, the step limit, and K, the clock
pub record Run : Type 0 where
  pub limit : ℕ
  pub clock : ℕ

unfoldable pub run_line : Parser Run
run_line = do
  m ← before space number
  k ← before lf number
  pure (record { limit = m; clock = k })

-- "run (1: M, K)"
unfoldable pub run : Parser Run
run = do
  heading (bytes "run") 1 1 11
  run_line

-- ---- the sheet as a whole

-- a place's cells: a value that is not there is 0, and its flag is clear ("flags (bit 0 window, bit 1 penalty)")
abbrev pub ready_cell : Option TimeWindow → Float
ready_cell None = 0f
ready_cell (Some w) = w.ready

abbrev pub due_cell : Option TimeWindow → Float
due_cell None = 0f
due_cell (Some w) = w.due

abbrev pub penalty_cell : Option Float → Float
penalty_cell None = 0f
penalty_cell (Some p) = p

abbrev pub flags_cell : Option TimeWindow → Option Float → ℕ
flags_cell None None = 0
flags_cell (Some w) None = 1
flags_cell None (Some p) = 2
flags_cell (Some w) (Some p) = 3

-- a stop's cell is a u16: a number that does not fit becomes 65,535, which is no place either (row 6)
abbrev pub stop_cell : ℕ → ℕ
stop_cell c = cond (leb c 65535) c 65535

abbrev pub with_rest : Vehicle → Option VehicleBreak → Vehicle
with_rest v rest =
    record {
      capacity = v.capacity;
      depot_id = v.depot_id;
      fixed_cost = v.fixed_cost;
      cost_per_distance = v.cost_per_distance;
      max_distance = v.max_distance;
      max_duration = v.max_duration;
      rest = rest;
    }

-- the problem of what the first five sections hold
unfoldable pub problem_of : Vehicle → List Place → DistanceMatrix → Option VehicleBreak → Problem
problem_of v ps m rest =
    record {
      demand = map (λ p. p.demand) ps;
      places =
          customers
          (map (λ p. p.customer.service_duration) ps)
          (map (λ p. ready_cell p.customer.time_window) ps)
          (map (λ p. due_cell p.customer.time_window) ps)
          (map (λ p. penalty_cell p.customer.lateness_penalty) ps)
          (map (λ p. flags_cell p.customer.time_window p.customer.lateness_penalty) ps);
      roads = m;
      vehicle = with_rest v rest;
    }

-- the two slices of a plan, route after route
unfoldable pub slices_of : Plan → Slices
slices_of plan = record { lengths = lengths_of plan; stops = map stop_cell (flat plan) }

-- "Sections in this order, each after its count": the first five are the problem
unfoldable pub whole_problem : Parser Problem
whole_problem = do
  v ← vehicle
  ps ← places
  m ← roads (length ps)
  rest ← break
  pure (problem_of v ps m rest)

-- what a sheet asks for: its plan is run by minimise with the tape, M and K, and then by eliminate
pub record Sheet : Type 0 where
  pub problem : Problem
  pub plan : Slices
  pub tape : List ℕ
  pub run : Run

-- "Nothing follows."
abbrev pub end : Parser (Unit {0})
end s at = check (eqb at (length s)) 11 s at

-- the last section, and the end
unfoldable pub last_run : Parser Run
last_run = do
  r ← run
  end
  pure r

unfoldable pub sections : Parser Sheet
sections = do
  p ← whole_problem
  tape ← draws
  plan ← routes
  r ← last_run
  pure (record { problem = p; plan = slices_of plan; tape = tape; run = r })

-- "A sheet is tested for 10, then read front to back to its first fault (11 or 12)"
unfoldable pub sheet : Parser Sheet
sheet s = (check (leb (length s) 60000) 10 >> sections) s

-- "Given: route lines of the sheet, empty ones too"
abbrev pub given : Sheet → ℕ
given x = length x.plan.lengths
