-- The vehicle as C hands it over: numbers, and a number `given` whose bits say which of them there are. Assumes nothing.
use Rattle.std.specs.Prelude.{ℕ, ◌/◌, ◌%◌, Bool, eqb, ℤ, Float, Option}
use Rattle.std.specs.Bool.{then_some}
use Rattle.models.specs.declared.vehicle.Vehicle.{Vehicle}
use Rattle.models.specs.declared.vehicle.VehicleBreak.{VehicleBreak}

-- bit 0: there is a limit on the distance
abbrev pub has_max_distance : ℕ → Bool
has_max_distance given = eqb (given % 2) 1

-- bit 1: there is a limit on the duration
abbrev pub has_max_duration : ℕ → Bool
has_max_duration given = eqb (given / 2 % 2) 1

-- bit 2: there is a break
abbrev pub has_rest : ℕ → Bool
has_rest given = eqb (given / 4 % 2) 1

-- "A limit is either none or a number"
abbrev pub limit_of : Bool → Float → Option Float
limit_of there most = then_some there most

-- "so is a break, with earliest, latest, duration"
abbrev pub rest_of : Bool → Float → Float → Float → Option VehicleBreak
rest_of there earliest latest duration = then_some there (record { earliest = earliest; latest = latest; duration = duration })

-- the vehicle of the numbers; a value whose bit is clear is not read
unfoldable pub vehicle_of : ℤ → ℕ → Float → Float → ℕ → Float → Float → Float → Float → Float → Vehicle
vehicle_of capacity depot fixed rate given distance-limit duration-limit earliest latest duration =
    record {
      capacity = capacity;
      depot_id = depot;
      fixed_cost = fixed;
      cost_per_distance = rate;
      max_distance = limit_of (has_max_distance given) distance-limit;
      max_duration = limit_of (has_max_duration given) duration-limit;
      rest = rest_of (has_rest given) earliest latest duration;
    }
