-- A label and one stop of its route (evaluation/schedule.rs; "The break"). Assumes nothing.
use Rattle.std.specs.Prelude.{ℕ, Bool, true, false, cond, ◌&&◌, ◌||◌, Float, Option, Some, None}
use Rattle.std.specs.Float.Ieee.{lt, eq}
use Rattle.distance.specs.floats.Binary64.{◌⊕◌, ◌⊗◌, 0f, max}
use Rattle.distance.specs.models.declared.customer.Customer.{Customer}
use Rattle.distance.specs.models.TimeWindow.{waiting_time, is_violated, lateness}
use Rattle.labels.specs.declared.Label.{Label}
use Rattle.distance.specs.models.declared.customer.TimeWindow.{TimeWindow}
use Rattle.distance.specs.models.declared.vehicle.VehicleBreak.{VehicleBreak}

-- ---- one stop

-- Label::START: "The starting label stands at time 0 with none taken."
abbrev pub START : Label
START = record { time = 0f; lateness = 0f; lateness_cost = 0f; rest = None }

-- in time: the lateness so far stays
abbrev pub in_time : Label → Float → Option (ℕ × Float) → Option Label
in_time l time taken = Some (record { time = time; lateness = l.lateness; lateness_cost = l.lateness_cost; rest = taken })

-- "If violated and without penalty, the route is not feasible."; otherwise lateness and penalty × lateness are added
abbrev pub too_late : Label → Float → Float → Option (ℕ × Float) → Option Float → Option Label
too_late l time late taken None = None
too_late l time late taken (Some each) =
    Some (record { time = time; lateness = l.lateness ⊕ late; lateness_cost = l.lateness_cost ⊕ each ⊗ late; rest = taken })

-- "service starts at arrival + (ready − arrival), rounded twice, when arrival < ready, else at arrival + 0"
abbrev pub at_window : Label → Float → Option (ℕ × Float) → Customer → Option TimeWindow → Option Label
at_window l ready taken c None = in_time l (ready ⊕ c.service_duration) taken
at_window l ready taken c (Some w) =
    let time = ready ⊕ waiting_time w ready ⊕ c.service_duration in
    cond (is_violated w ready) (too_late l time (lateness w ready) taken c.lateness_penalty) (in_time l time taken)

-- `serve`, from the stop's customer on: the wait and the service of one who can be served from `ready` on
unfoldable pub serve_at : Label → Float → Option (ℕ × Float) → Customer → Option Label
serve_at l ready taken c = at_window l ready taken c c.time_window

-- "before with a break starts it at max(arrival, earliest), dead if past latest, and is ready after its duration"
abbrev pub pausing : Label → Float → ℕ → Option VehicleBreak → Customer → Option Label
pausing l arrival index None c = serve_at l arrival l.rest c
pausing l arrival index (Some rest) c =
    let start = max arrival rest.earliest in
    cond (lt rest.latest start) None (serve_at l (start ⊕ rest.duration) (Some (index, start)) c)

-- `serve`: "Arrival is time so far plus travel."
unfoldable pub serve : Label → Float → ℕ → Option VehicleBreak → Customer → Option Label
serve l travel index rest c = pausing l (l.time ⊕ travel) index rest c

-- `and_then` with `serve`
abbrev pub served_from : Option Label → Float → ℕ → Option VehicleBreak → Customer → Option Label
served_from None travel index rest c = None
served_from (Some l) travel index rest c = serve l travel index rest c

-- ---- the two labels

-- (y.time, y.lateness_cost) < (x.time, x.lateness_cost)
abbrev pub sooner : Label → Label → Bool
sooner y x = lt y.time x.time || (eq y.time x.time && lt y.lateness_cost x.lateness_cost)

-- Label::earlier: "by (time, lateness cost), ties to the one carried on", which comes first
abbrev pub earlier : Option Label → Option Label → Option Label
earlier None b = b
earlier (Some x) None = Some x
earlier (Some x) (Some y) = cond (sooner y x) (Some y) (Some x)

abbrev pub lives : Option Label → Bool
lives None = false
lives (Some l) = true
