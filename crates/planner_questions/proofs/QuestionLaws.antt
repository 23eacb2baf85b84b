-- The questions about a route: what a refused one says, what an accepted one may rely on and what it answers. Assumes nothing.
use Rattle.std.specs.Prelude.{Option, None, Some}
use Prim.Native.Nat.{ℕ, ◌≤◌, ◌<◌, ◌*◌}
use mathlib.Core.Path.{◌≡◌, sym, ap, ◌∙◌}
use mathlib.Core.Bool.{Bool}
use mathlib.Core.List.{List}
use lib.ListN.{length}
use lib.Ieee.{Float}
use Rattle.refusals.specs.models.declared.vehicle.VehicleBreak.{VehicleBreak}
use Rattle.refusals.specs.models.declared.limits.RouteLimits.{RouteLimits}
use Rattle.refusals.specs.break_clock.declared.route_eval.RouteEval.{RouteEval}
use Rattle.refusals.specs.models.RouteLimits.{limits_of}
use Rattle.refusals.specs.models.Problem.{Problem, Fit, Stops, depot}
use Rattle.refusals.specs.ModelsValidLaws.{valid_fit, valid_depot}
use Rattle.refusals.specs.break_clock.Schedule.{schedule}
use Rattle.refusals.specs.evaluation.Check.{route_feasible}
use Rattle.refusals.specs.route_cost.Route.{route_distance}
use Rattle.refusals.specs.entry.Table.{refusal}
use Rattle.refusals.specs.entry.Given.{route_inputs, schedule_inputs}
use Rattle.refusals.specs.EntryAdmittedLaws.{route_accepted, schedule_accepted}
use Rattle.planner.specs.Calls.{refused, answered, unless_refused, public_route_feasible, public_schedule, public_route_distance}

-- ---- the row that applies, if one does, and the answer

pub refuses : {A : Type 0} (n : ℕ) (o : Option ℕ) (a : A) → Some n ≡ o → refused n ≡ unless_refused o a
refuses n o a e = ap (λ (x : Option ℕ). unless_refused x a) e

pub answers : {A : Type 0} (o : Option ℕ) (x a : A) → None ≡ o → x ≡ a → answered x ≡ unless_refused o a
answers o x a e f = ap answered f ∙ ap (λ (y : Option ℕ). unless_refused y a) e

module _ (p : Problem) (route : List ℕ) where
  -- ---- questions about a route
  pub feasible_refused : (n : ℕ) → Some n ≡ refusal (route_inputs p route) → refused n ≡ public_route_feasible p route
  unfolding public_route_feasible
  feasible_refused n e = refuses n _ _ e

  pub distance_refused : (n : ℕ) → Some n ≡ refusal (route_inputs p route) → refused n ≡ public_route_distance p route
  unfolding public_route_distance
  distance_refused n e = refuses n _ _ e

  module _ (e : None ≡ refusal (route_inputs p route)) where
    pub route_fit : Fit p.places p.roads
    route_fit = valid_fit p (route_accepted p route (sym e)).0

    pub route_depot : depot p < p.roads.size
    route_depot = valid_depot p (route_accepted p route (sym e)).0

    pub route_stops : Stops p.roads.size route
    route_stops = (route_accepted p route (sym e)).1.stops

    pub route_few : p.roads.size ≤ 256
    route_few = route_fit.square.few

    pub route_cells : length p.roads.distances ≡ p.roads.size * p.roads.size
    route_cells = route_fit.square.distance_cells

    pub feasible_answered : (l : RouteLimits) (x : Bool) → l ≡ limits_of p.vehicle → x ≡ route_feasible p.places p.roads (depot p) l route → answered x ≡ public_route_feasible p route
    unfolding public_route_feasible
    feasible_answered l x g f = answers _ x _ e (f ∙ ap (λ (k : RouteLimits). route_feasible p.places p.roads (depot p) k route) g)

    pub distance_answered : (x : Float) → x ≡ route_distance p.roads (depot p) route → answered x ≡ public_route_distance p route
    unfolding public_route_distance
    distance_answered x f = answers _ x _ e f

  -- ---- with a break beside it
  module _ (b : VehicleBreak) where
    pub schedule_refused : (n : ℕ) → Some n ≡ refusal (schedule_inputs p b route) → refused n ≡ public_schedule p b route
    unfolding public_schedule
    schedule_refused n e = refuses n _ _ e

    module _ (e : None ≡ refusal (schedule_inputs p b route)) where
      pub schedule_fit : Fit p.places p.roads
      schedule_fit = valid_fit p (schedule_accepted p route b (sym e)).0

      pub schedule_depot : depot p < p.roads.size
      schedule_depot = valid_depot p (schedule_accepted p route b (sym e)).0

      pub schedule_stops : Stops p.roads.size route
      schedule_stops = (schedule_accepted p route b (sym e)).1.stops

      pub schedule_answered : (x : Option RouteEval) → x ≡ schedule p.places p.roads (depot p) b route → answered x ≡ public_schedule p b route
      unfolding public_schedule
      schedule_answered x f = answers _ x _ e f
