-- The most that the lateness of any plan can cost (evaluation/mod.rs, `lateness_bound`). Assumes nothing.
use Rattle.std.specs.Prelude.{ℕ, List, cond, length, pos, Float, Option, Some, None}
use Rattle.std.specs.Float.{binary64}
use Rattle.std.specs.Float.Ieee.{of_int}
use Rattle.route_worth.specs.floats.Binary64.{◌⊕◌, ◌⊗◌, 0f, max}
use Rattle.route_worth.specs.laws.Loops.{loop}
use Rattle.route_worth.specs.models.Customer.{Customers, window_at, penalty_at}
use Rattle.route_worth.specs.models.Problem.{DistanceMatrix}
use Rattle.route_worth.specs.distance.Matrix.{travel_time, largest}
use Rattle.route_worth.specs.evaluation.Check.{has_soft_windows}
use Rattle.route_worth.specs.models.declared.customer.TimeWindow.{TimeWindow}

abbrev pub with_window : Float → Option TimeWindow → Float
with_window most None = most
with_window most (Some w) = max most (max w.ready w.due)

abbrev pub with_penalty : Float → Option Float → Float
with_penalty most None = most
with_penalty most (Some each) = max most each

-- place c's part in each
unfoldable pub later_window : List Float → List Float → List ℕ → ℕ → Float → Float
later_window ready due flags c most = with_window most (window_at ready due flags c)

unfoldable pub dearer_penalty : List Float → List ℕ → ℕ → Float → Float
dearer_penalty penalty flags c most = with_penalty most (penalty_at penalty flags c)

-- `ready`: the larger end of each window there is, and the largest of them
unfoldable pub latest_window : List Float → List Float → List ℕ → Float
latest_window ready due flags = loop (length flags) (later_window ready due flags) 0f

-- `penalty`: of every place that has one, with a window or without
unfoldable pub dearest_penalty : List Float → List ℕ → Float
dearest_penalty penalty flags = loop (length flags) (dearer_penalty penalty flags) 0f

-- `slowest`: over every i and j below n, the diagonal and the depot included
unfoldable pub slowest : DistanceMatrix → Float
slowest m = loop m.size (λ i row. loop m.size (λ j most. max most (travel_time m i j)) row) 0f

-- `lateness_bound`: n × penalty × (ready + n × (slowest + service)), 0 where no window is soft
unfoldable pub lateness_bound : Customers → DistanceMatrix → Float
lateness_bound cs m =
    let n = of_int binary64 (pos m.size) in
    let penalty = dearest_penalty cs.penalty cs.flags in
    let ready = latest_window cs.ready cs.due cs.flags in
    cond (has_soft_windows cs.flags) (n ⊗ penalty ⊗ (ready ⊕ n ⊗ (slowest m ⊕ largest cs.service))) 0f
