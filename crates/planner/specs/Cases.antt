-- The twelve cases of "Around the edges": one list of questions, one list of answers, and one theorem by computation from the definitions.
-- Assumes nothing.
use Rattle.std.specs.Prelude.{ℕ, ◌≡◌, refl, Bool, true, false, List, [], ◌∷◌, map, pos, Float, Option, Some, None}
use Rattle.std.specs.Float.{binary64}
use Rattle.std.specs.Float.Ieee.{of_int}
use Rattle.lateness_bound.specs.models.declared.vehicle.Vehicle.{Vehicle}
use Rattle.lateness_bound.specs.models.declared.vehicle.VehicleBreak.{VehicleBreak}
use Rattle.lateness_bound.specs.break_clock.declared.route_eval.RouteEval.{RouteEval}
use Rattle.lateness_bound.specs.models.Problem.{Problem, problem}
use Rattle.lateness_bound.specs.break_clock.RouteEval.{priced_distance}
use Rattle.minimization.specs.plan.Plan.{Slices}
use Rattle.minimization.specs.route_load.Feasible.{load, fits}
use Rattle.entry.specs.declared.Work.{Work}
use Rattle.planner.specs.Calls.{Answer, refused, answered, Reply, public_route_eval}
use Rattle.planner.specs.Run.{Call, minimise, eliminate, run}
use Rattle.planner.specs.Opened.{opened}

-- ---- questions and what is said of them

pub data Question : Type 0 where
  evaluates : Problem → List ℕ → Question
  fits_in : Problem → List ℕ → Question
  runs : Problem → Slices → List Call → Question

-- what the cases name of a route: its duration, lateness and priced distance, and its break
pub data Said : Type 0 where
  refused_with : ℕ → Said
  not_feasible : Said
  feasible : (duration lateness priced : Float) → Option (ℕ × Float) → Said
  within_capacity : Bool → Said
  replies : List Reply → Said

abbrev said : Answer (Option RouteEval) → Said
said (refused n) = refused_with n
said (answered None) = not_feasible
said (answered (Some e)) = feasible e.duration e.lateness (priced_distance e) e.rest

unfoldable pub asked : Question → Said
asked (evaluates p r) = said (public_route_eval p r)
asked (fits_in p r) = within_capacity (fits p (load p.demand r))
asked (runs p s calls) = replies (run p s calls)

-- ---- the cases' problems

abbrev num : ℕ → Float
num n = of_int binary64 (pos n)

abbrev pause : ℕ → ℕ → ℕ → Option VehicleBreak
pause earliest latest duration = Some (record { earliest = num earliest; latest = num latest; duration = num duration })

abbrev van : Option Float → Option VehicleBreak → Vehicle
van most rest = record { capacity = pos 10; depot_id = 0; fixed_cost = num 0; cost_per_distance = num 1; max_distance = most; max_duration = None; rest = rest }

-- one stop: its demand, the way there and back, its due, its flags, the vehicle; its penalty is 2
one_stop : ℕ → ℕ → ℕ → ℕ → ℕ → Vehicle → Problem
one_stop demand there back due flags v =
    problem 2 (pos 0 ∷ pos demand ∷ []) (num 0 ∷ num 0 ∷ []) (num 0 ∷ num 0 ∷ []) (num 0 ∷ num due ∷ []) (num 0 ∷ num 2 ∷ []) (0 ∷ flags ∷ [])
    (num 0 ∷ num there ∷ num back ∷ num 0 ∷ []) [] v

-- the sheet's problem, with the flags of place 1 and a distance limit
sheet : ℕ → Option Float → Problem
sheet flags most =
    problem 3 (pos 0 ∷ pos 4 ∷ pos 5 ∷ []) (num 0 ∷ num 0 ∷ num 0 ∷ []) (num 0 ∷ num 0 ∷ num 0 ∷ []) (num 0 ∷ num 1000 ∷ num 0 ∷ [])
    (num 0 ∷ num 1 ∷ num 0 ∷ []) (0 ∷ flags ∷ 0 ∷ [])
    (num 0 ∷ num 10 ∷ num 10 ∷ num 10 ∷ num 0 ∷ num 5 ∷ num 10 ∷ num 5 ∷ num 0 ∷ []) [] (van most None)

-- the least work cells that a call accepts
work : Work
work = record { u16_cells = 8192; f64_cells = 2048 }

-- M, K and the sheet's tape
minimised : ℕ → ℕ → Call
minimised m k = minimise (record { limit = m; clock = k; tape = 7 ∷ [] }) work

-- ---- questions

two_routes : Slices
two_routes = record { lengths = 1 ∷ 1 ∷ []; stops = 1 ∷ 2 ∷ [] }

three_routes : Slices
three_routes = record { lengths = 0 ∷ 1 ∷ 1 ∷ []; stops = 1 ∷ 2 ∷ [] }

pub questions : List Question
questions =
    -- 1. Travel 480, due 480, hard: feasible.
    evaluates (one_stop 10 480 480 480 1 (van None None)) (1 ∷ []) ∷
    -- 2. 481: not feasible.
    evaluates (one_stop 10 481 481 480 1 (van None None)) (1 ∷ []) ∷
    -- 3. 481, penalty 2, back 481: lateness 1, priced distance 964.
    evaluates (one_stop 10 481 481 480 3 (van None None)) (1 ∷ []) ∷
    -- 4. Capacity 10: load 10 fits, 11 does not.
    fits_in (one_stop 10 1 1 0 0 (van None None)) (1 ∷ []) ∷
    fits_in (one_stop 11 1 1 0 0 (van None None)) (1 ∷ []) ∷
    -- 5. Break 100 to 200 for 30, stop at 60, back 40: no break, duration 100.
    evaluates (one_stop 10 60 40 0 0 (van None (pause 100 200 30))) (1 ∷ []) ∷
    -- 6. Back 41: break at stop 0 from 100, duration 171.
    evaluates (one_stop 10 60 41 0 0 (van None (pause 100 200 30))) (1 ∷ []) ∷
    -- 7. As 6, latest 99: not feasible.
    evaluates (one_stop 10 60 41 0 0 (van None (pause 100 99 30))) (1 ∷ []) ∷
    -- 8. Empty route, earliest 0, depot to itself 0: feasible, no break.
    evaluates (one_stop 10 60 41 0 0 (van None (pause 0 200 30))) [] ∷
    -- 9. The sheet: steps 2.
    runs (sheet 0 None) two_routes (minimised 5 5 ∷ eliminate work ∷ []) ∷
    -- 10. The sheet's problem, minimise alone, M = 0 or K = 0: plan unchanged, steps 0.
    runs (sheet 0 None) two_routes (minimised 0 5 ∷ []) ∷
    runs (sheet 0 None) two_routes (minimised 5 0 ∷ []) ∷
    -- 11. The sheet with distance limit 25: as 9. Limit 24: two routes stay, steps 5 (the clock stops the second attempt); with K = 10 steps 10.
    runs (sheet 0 (Some (num 25))) two_routes (minimised 5 5 ∷ eliminate work ∷ []) ∷
    runs (sheet 0 (Some (num 24))) two_routes (minimised 5 5 ∷ eliminate work ∷ []) ∷
    runs (sheet 0 (Some (num 24))) two_routes (minimised 5 10 ∷ eliminate work ∷ []) ∷
    -- 12. The sheet's problem, minimise alone, lengths 0, 1, 1 with M = 0: 1, 1, 0 and r = 2; with a soft window unchanged, r = 3.
    runs (sheet 0 None) three_routes (minimised 0 5 ∷ []) ∷
    runs (sheet 3 None) three_routes (minimised 0 5 ∷ []) ∷
    []

-- ---- answers

-- r, the counts and both slices
replied : ℕ → ℕ → ℕ → List ℕ → List ℕ → Reply
replied r steps draws lengths stops =
    record { answer = answered (record { routes = r; counts = record { steps = steps; draws = draws } }); slices = record { lengths = lengths; stops = stops } }

pub answers : List Said
answers =
    feasible (num 960) (num 0) (num 960) None ∷
    not_feasible ∷
    feasible (num 962) (num 1) (num 964) None ∷
    within_capacity true ∷
    within_capacity false ∷
    feasible (num 100) (num 0) (num 100) None ∷
    feasible (num 171) (num 0) (num 101) (Some (0, num 100)) ∷
    not_feasible ∷
    feasible (num 0) (num 0) (num 0) None ∷
    replies (replied 1 2 0 (2 ∷ 0 ∷ []) (1 ∷ 2 ∷ []) ∷ replied 1 0 0 (2 ∷ 0 ∷ []) (1 ∷ 2 ∷ []) ∷ []) ∷
    replies (replied 2 0 0 (1 ∷ 1 ∷ []) (1 ∷ 2 ∷ []) ∷ []) ∷
    replies (replied 2 0 0 (1 ∷ 1 ∷ []) (1 ∷ 2 ∷ []) ∷ []) ∷
    replies (replied 1 2 0 (2 ∷ 0 ∷ []) (1 ∷ 2 ∷ []) ∷ replied 1 0 0 (2 ∷ 0 ∷ []) (1 ∷ 2 ∷ []) ∷ []) ∷
    replies (replied 2 5 0 (1 ∷ 1 ∷ []) (1 ∷ 2 ∷ []) ∷ replied 2 0 0 (1 ∷ 1 ∷ []) (1 ∷ 2 ∷ []) ∷ []) ∷
    replies (replied 2 10 0 (1 ∷ 1 ∷ []) (1 ∷ 2 ∷ []) ∷ replied 2 0 0 (1 ∷ 1 ∷ []) (1 ∷ 2 ∷ []) ∷ []) ∷
    replies (replied 2 0 0 (1 ∷ 1 ∷ 0 ∷ []) (1 ∷ 2 ∷ []) ∷ []) ∷
    replies (replied 3 0 0 (0 ∷ 1 ∷ 1 ∷ []) (1 ∷ 2 ∷ []) ∷ []) ∷
    []

pub cases_hold : map asked questions ≡ answers
unfolding opened asked questions answers one_stop sheet work minimised two_routes three_routes replied
cases_hold = refl

-- Beside the twelve: eliminate alone takes a route of the sheet apart.
eliminate_alone : asked (runs (sheet 0 None) two_routes (eliminate work ∷ [])) ≡ replies (replied 1 0 0 (2 ∷ 0 ∷ []) (1 ∷ 2 ∷ []) ∷ [])
unfolding opened asked sheet work two_routes replied
eliminate_alone = refl
