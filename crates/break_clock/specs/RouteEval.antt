-- What a route is worth (evaluation/mod.rs). Assumes nothing.
use Rattle.std.specs.Prelude.{ℕ, Float, Option}
use Rattle.labels.specs.floats.Binary64.{◌⊕◌}
use Rattle.labels.specs.declared.Label.{Label}
use Rattle.break_clock.specs.declared.route_eval.RouteEval.{RouteEval}

-- a route that ends at a label, with the break as `taken` says
abbrev pub eval_of : Label → Float → Float → Option (ℕ × Float) → RouteEval
eval_of l distance duration taken =
    record { distance = distance; duration = duration; lateness = l.lateness; lateness_cost = l.lateness_cost; rest = taken }

-- RouteEval::priced_distance
abbrev pub priced_distance : RouteEval → Float
priced_distance e = e.distance ⊕ e.lateness_cost
