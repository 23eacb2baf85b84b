-- What a route and an insertion are worth (route_elimination.rs, the closure `worth`, and `cost` in the body of `for c in moving`). Assumes nothing.
use Rattle.std.specs.Prelude.{ℕ, List, Bool, cond, Float, Option, Some, None}
use Rattle.route_worth.specs.floats.Binary64.{◌⊖◌}
use Rattle.route_worth.specs.laws.Edits.{insert_at}
use Rattle.route_worth.specs.models.RouteLimits.{limits_of}
use Rattle.route_worth.specs.models.Problem.{Problem, depot}
use Rattle.route_worth.specs.evaluation.Eval.{effective_cost}
use Rattle.route_worth.specs.evaluation.Check.{has_soft_windows}
use Rattle.insertion_cost.specs.route_cost.Route.{route_distance, insertion_cost}

-- `soft`
abbrev pub soft : Problem → Bool
soft p = has_soft_windows p.places.flags

-- the closure `worth`: "With a soft window, worth is `effective_cost`."
unfoldable pub worth : Problem → List ℕ → Float
worth p r = cond (soft p) (effective_cost p.places p.roads (depot p) (limits_of p.vehicle) r) (route_distance p.roads (depot p) r)

-- `cost`: with a soft window the change in worth, otherwise what the insertion adds to the distance
unfoldable pub insertion_worth : Problem → List ℕ → ℕ → ℕ → Float
insertion_worth p r pos c = cond (soft p) (worth p (insert_at pos c r) ⊖ worth p r) (insertion_cost p.roads (depot p) r pos c)

-- `current`: what the route is worth where a window is soft; the lateness is not weighed else
abbrev pub current : Problem → List ℕ → Option Float
current p r = cond (soft p) (Some (worth p r)) None
