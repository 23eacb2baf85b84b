-- What a vehicle allows one route (evaluation/mod.rs, `RouteLimits`). Assumes nothing.
use Rattle.std.specs.Prelude.{Bool, true, false, ◌&&◌, Float, Option, Some, None}
use Rattle.std.specs.Float.Ieee.{le}
use Rattle.models.specs.declared.vehicle.VehicleBreak.{VehicleBreak}
use Rattle.models.specs.declared.vehicle.Vehicle.{Vehicle}
use Rattle.models.specs.declared.limits.RouteLimits.{RouteLimits}

-- RouteLimits::NONE
abbrev pub NONE : RouteLimits
NONE = record { max_distance = None; max_duration = None; rest = None }

-- RouteLimits::of
abbrev pub limits_of : Vehicle → RouteLimits
limits_of v = record { max_distance = v.max_distance; max_duration = v.max_duration; rest = v.rest }

abbrev pub no_limit : Option Float → Bool
no_limit None = true
no_limit (Some most) = false

abbrev pub no_rest : Option VehicleBreak → Bool
no_rest None = true
no_rest (Some rest) = false

-- RouteLimits::is_unlimited
abbrev pub is_unlimited : RouteLimits → Bool
is_unlimited l = no_limit l.max_distance && (no_limit l.max_duration && no_rest l.rest)

-- a number keeps a limit that it meets exactly
abbrev pub within : Option Float → Float → Bool
within None x = true
within (Some most) x = le x most

-- RouteLimits::allow: "distance ≤ limit and duration ≤ limit"
abbrev pub allow : RouteLimits → Float → Float → Bool
allow l distance duration = within l.max_distance distance && within l.max_duration duration
