-- The vehicle (models/vehicle.rs). Assumes nothing.
use Rattle.std.specs.Prelude.{cond, Float}
use Rattle.std.specs.Float.Ieee.{lt}
use Rattle.float_functions.specs.floats.Binary64.{◌⊘◌, 0f}
use Rattle.models.specs.declared.vehicle.VehicleBreak.{VehicleBreak}
use Rattle.models.specs.declared.vehicle.Vehicle.{Vehicle}

-- VehicleBreak::new
abbrev pub vehicle_break_new : Float → Float → Float → VehicleBreak
vehicle_break_new earliest latest duration = record { earliest = earliest; latest = latest; duration = duration }

-- "Fixed cost in distance is fixed / cost per distance, 0 where the latter is 0."
abbrev pub fixed_cost_in_distance : Vehicle → Float
fixed_cost_in_distance v = cond (lt 0f v.cost_per_distance) (v.fixed_cost ⊘ v.cost_per_distance) 0f
