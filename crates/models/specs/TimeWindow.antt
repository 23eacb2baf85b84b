-- A time window (models/customer.rs, `TimeWindow`), for every f64. Assumes nothing.
use Rattle.std.specs.Prelude.{Bool, cond, ◌&&◌, Float, Option, Some, None}
use Rattle.std.specs.Float.Ieee.{lt, le}
use Rattle.float_functions.specs.floats.Binary64.{◌⊖◌, 0f, is_finite, max}
use Rattle.models.specs.declared.customer.TimeWindow.{TimeWindow}

-- TimeWindow::new: two finite numbers, ready not above due
abbrev pub time_window_new : Float → Float → Option TimeWindow
time_window_new ready due =
    cond (is_finite ready) (cond (is_finite due) (cond (lt due ready) None (Some (record { ready = ready; due = due }))) None) None

-- TimeWindow::contains: ready ≤ time ≤ due
abbrev pub contains : TimeWindow → Float → Bool
contains w time = le w.ready time && le time w.due

-- TimeWindow::waiting_time: ready − arrival, rounded, when arrival < ready, else 0
abbrev pub waiting_time : TimeWindow → Float → Float
waiting_time w arrival = cond (lt arrival w.ready) (w.ready ⊖ arrival) 0f

-- "A window is violated when arrival > due."
abbrev pub is_violated : TimeWindow → Float → Bool
is_violated w arrival = lt w.due arrival

-- "Lateness is max(arrival − due, 0)"
abbrev pub lateness : TimeWindow → Float → Float
lateness w arrival = max (arrival ⊖ w.due) 0f
