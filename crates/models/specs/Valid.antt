-- What makes a problem valid: the tests of rows 1 to 4 of the refusal table, each true where its row does not apply. Assumes nothing.
use Rattle.std.specs.Prelude.{ℕ, ◌*◌, List, Bool, true, false, cond, not, ◌&&◌, ◌||◌, length, get_or, eqb, leb, ltb, ℤ, pos, negsuc, Float, Option, Some, None}
use Rattle.std.specs.Int.Signed.{le_z}
use Rattle.std.specs.Float.{nan, inf, fin}
use Rattle.std.specs.Float.Ieee.{lt, le}
use Rattle.float_functions.specs.floats.Binary64.{0f, 1e-6, 1e12}
use Rattle.float_functions.specs.laws.Searches.{every}
use Rattle.models.specs.declared.vehicle.VehicleBreak.{VehicleBreak}
use Rattle.models.specs.declared.vehicle.Vehicle.{Vehicle}
use Rattle.models.specs.Customer.{Customers, windowed, penalised}
use Rattle.models.specs.Problem.{DistanceMatrix, Problem, depot}

-- ---- row 1: "N is 0 or over 256, or a slice has the wrong length (times: 0 or N × N)"

abbrev pub count_passes : ℕ → Bool
count_passes n = not (eqb n 0) && leb n 256

abbrev pub cells_pass : Customers → ℕ → Bool
cells_pass cs n =
    eqb (length cs.service) n
    && (eqb (length cs.ready) n && (eqb (length cs.due) n && (eqb (length cs.penalty) n && eqb (length cs.flags) n)))

abbrev pub matrix_passes : DistanceMatrix → Bool
matrix_passes m =
    eqb (length m.distances) (m.size * m.size) && (eqb (length m.times) 0 || eqb (length m.times) (m.size * m.size))

unfoldable pub sizes_pass : Problem → Bool
sizes_pass p =
    count_passes p.roads.size
    && (eqb (length p.demand) p.roads.size && (cells_pass p.places p.roads.size && matrix_passes p.roads))

-- ---- row 2: floats, cost per distance, demand, flags

-- "any float of the problem .. is non-finite, has its sign bit set (−0.0 too) or exceeds 1e12"
unfoldable pub is_amount : Float → Bool
is_amount nan = false
is_amount (inf s) = false
is_amount (fin s m e) = not s && le (fin s m e) 1e12

-- every cell from the first on
abbrev pub amounts_pass : List Float → Bool
amounts_pass xs = every (λ k. is_amount (get_or xs k nan)) (length xs) 0

-- "(but for those under a clear flag)"; "flags over 3"; "demand outside −1,000,000..1,000,000"
abbrev pub window_passes : Customers → ℕ → Bool
window_passes cs c = cond (windowed (get_or cs.flags c 0)) (is_amount (get_or cs.ready c nan) && is_amount (get_or cs.due c nan)) true

abbrev pub penalty_passes : Customers → ℕ → Bool
penalty_passes cs c = cond (penalised (get_or cs.flags c 0)) (is_amount (get_or cs.penalty c nan)) true

abbrev pub demand_passes : ℤ → Bool
demand_passes d = le_z (negsuc 999_999) d && le_z d (pos 1_000_000)

abbrev pub place_passes : List ℤ → Customers → ℕ → Bool
place_passes demand cs c =
    leb (get_or cs.flags c 0) 3 && (window_passes cs c && (penalty_passes cs c && demand_passes (get_or demand c (pos 0))))

abbrev pub limit_passes : Option Float → Bool
limit_passes None = true
limit_passes (Some most) = is_amount most

abbrev pub rest_passes : Option VehicleBreak → Bool
rest_passes None = true
rest_passes (Some rest) = is_amount rest.earliest && (is_amount rest.latest && is_amount rest.duration)

-- "cost per distance is above 0 and below 1e-6"
abbrev pub cost_passes : Float → Bool
cost_passes x = is_amount x && not (lt 0f x && lt x 1e-6)

abbrev pub vehicle_passes : Vehicle → Bool
vehicle_passes v =
    is_amount v.fixed_cost
    && (cost_passes v.cost_per_distance && (limit_passes v.max_distance && (limit_passes v.max_duration && rest_passes v.rest)))

unfoldable pub values_pass : Problem → Bool
values_pass p =
    vehicle_passes p.vehicle
    && (amounts_pass p.places.service
    && (amounts_pass p.roads.distances
    && (amounts_pass p.roads.times && every (place_passes p.demand p.places) (length p.demand) 0)))

-- ---- row 3: "a window has ready > due"

abbrev pub window_ordered : Customers → ℕ → Bool
window_ordered cs c = cond (windowed (get_or cs.flags c 0)) (not (lt (get_or cs.due c nan) (get_or cs.ready c nan))) true

unfoldable pub windows_pass : Problem → Bool
windows_pass p = every (window_ordered p.places) (length p.places.flags) 0

-- ---- row 4: "depot ≥ N"

abbrev pub depot_passes : Problem → Bool
depot_passes p = ltb (depot p) p.roads.size

-- ---- a valid problem: none of the rows applies

unfoldable pub valid : Problem → Bool
valid p = sizes_pass p && (values_pass p && (windows_pass p && depot_passes p))
