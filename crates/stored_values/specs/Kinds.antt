-- The kinds of stored calls and their numbers, those of `KINDS` of the comparison. Assumes nothing.
use Rattle.std.specs.Prelude.{ℕ, List, [], ◌∷◌, codes}
use Rattle.stored_values.specs.declared.kinds.Kind.{Kind}
use Rattle.stored_values.specs.declared.kinds.Kind.TheVariants.{Minimise, Eliminate, RouteFeasible, RouteEval, EffectiveCost, Schedule, RouteDistance, LatenessBound, GainFloor, TimeWindowNew}

-- kind i is the one at place i
abbrev pub kinds : List Kind
kinds = Minimise ∷ Eliminate ∷ RouteFeasible ∷ RouteEval ∷ EffectiveCost ∷ Schedule ∷ RouteDistance ∷ LatenessBound ∷ GainFloor ∷ TimeWindowNew ∷ []

-- its number
abbrev pub number_of : Kind → ℕ
number_of Minimise = 0
number_of Eliminate = 1
number_of RouteFeasible = 2
number_of RouteEval = 3
number_of EffectiveCost = 4
number_of Schedule = 5
number_of RouteDistance = 6
number_of LatenessBound = 7
number_of GainFloor = 8
number_of TimeWindowNew = 9

-- what it asks, as it is printed
abbrev pub name_of : Kind → List ℕ
name_of Minimise = codes "minimise"
name_of Eliminate = codes "eliminate"
name_of RouteFeasible = codes "route_feasible"
name_of RouteEval = codes "route_eval"
name_of EffectiveCost = codes "effective_cost"
name_of Schedule = codes "schedule"
name_of RouteDistance = codes "route_distance"
name_of LatenessBound = codes "lateness_bound"
name_of GainFloor = codes "gain_floor"
name_of TimeWindowNew = codes "time_window_new"
