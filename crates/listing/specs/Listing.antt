-- The listing that a sheet prints ("The rest: bound and sheet"). Assumes nothing.
use Rattle.std.specs.Prelude.{ℕ, suc, ◌≡◌, refl, List, [], ◌∷◌, ◌++◌, length, ℤ, pos, negsuc, T, Float, None}
use Rattle.std.specs.Float.{binary64}
use Rattle.std.specs.Float.Ieee.{add, of_int, in_unsigned, to_unsigned}
use Rattle.local_search.specs.floats.Whole.{nat}
use Rattle.local_search.specs.models.declared.vehicle.Vehicle.{Vehicle}
use Rattle.local_search.specs.models.Problem.{Problem, problem, depot}
use Rattle.local_search.specs.laws.Loops.{foldl}
use Rattle.local_search.specs.plan.Plan.{Plan}
use Rattle.local_search.specs.declared.rounds.Counts.{Counts}
use Rattle.local_search.specs.route_cost.Route.{legs, route_distance}
use Rattle.local_search.specs.route_load.Feasible.{load}
use Rattle.sheet_text.specs.Text.{bytes}
use Rattle.listing.specs.Decimal.{text, digits, decimal, signed}

-- a distance as it prints, Rust's `as u64`: the distances of a sheet are whole numbers, and so are their sums (`distance_prints`, sheet_laws)
abbrev pub whole : Float → ℕ
whole x = to_unsigned 64 x

-- a route whose distance is in the range of a u64, as the cast asks (`distance_prints`, sheet_laws)
pub record Prints (p : Problem) (route : List ℕ) : Type 0 where
  pub castable : T (in_unsigned binary64 64 (route_distance p.roads (depot p) route))

-- a stop behind a space
unfoldable pub stop : ℕ → List ℕ
stop c = text (bytes " " ∷ decimal c ∷ [])

unfoldable pub stops : List ℕ → List ℕ
stops [] = []
stops (c ∷ cs) = stop c ++ stops cs

-- "Route line: number from 1, load, distance, stops."
unfoldable pub route_line : ℕ → ℤ → ℕ → List ℕ → List ℕ
route_line number load distance route = text (decimal number ∷ bytes " " ∷ signed load ∷ bytes " " ∷ decimal distance ∷ stops route ∷ bytes "\n" ∷ [])

-- the line of a route of a problem
abbrev pub line_of : Problem → ℕ → List ℕ → List ℕ
line_of p number r = route_line number (load p.demand r) (whole (route_distance p.roads (depot p) r)) r

-- the lines of routes from some number on
unfoldable pub route_lines : Problem → ℕ → Plan → List ℕ
route_lines p number [] = []
route_lines p number (r ∷ rs) = text (line_of p number r ∷ route_lines p (suc number) rs ∷ [])

-- "routes 1"
unfoldable pub first_line : ℕ → List ℕ
first_line n = text (bytes "routes " ∷ decimal n ∷ bytes "\n" ∷ [])

-- "steps 2 draws 0 given 2 left 1"
unfoldable pub last_line : (steps draws given left : ℕ) → List ℕ
last_line steps draws given left =
    text
    (bytes "steps "
    ∷ decimal steps
    ∷ bytes " draws "
    ∷ decimal draws
    ∷ bytes " given "
    ∷ decimal given
    ∷ bytes " left "
    ∷ decimal left
    ∷ bytes "\n"
    ∷ [])

-- The listing of a plan: "Given: route lines of the sheet, empty ones too; left: routes printed."
unfoldable pub listing : Problem → Plan → Counts → ℕ → List ℕ
listing p plan counts given =
    text (first_line (length plan) ∷ route_lines p 1 plan ∷ last_line counts.steps counts.draws given (length plan) ∷ [])

-- "A refusal prints one line, for number 7 `refused 7`."
unfoldable pub refusal_line : ℕ → List ℕ
refusal_line n = text (bytes "refused " ∷ decimal n ∷ bytes "\n" ∷ [])

-- ---- the sample's listing, and others, by computation

-- Every definition, for a theorem that is computed: `unfolding opened`.
unfoldable pub opened : Unit {0}
unfolding text listing first_line last_line refusal_line route_lines route_line stops stop digits signed foldl load legs route_distance to_unsigned add of_int
opened = tt

van : Vehicle
van = record { capacity = pos 10; depot_id = 0; fixed_cost = nat 0; cost_per_distance = nat 1; max_distance = None; max_duration = None; rest = None }

-- what the listing reads of the sample's problem, with these demands
sample_with : List ℤ → Problem
sample_with demand = problem 3 demand [] [] [] [] [] (nat 0 ∷ nat 10 ∷ nat 10 ∷ nat 10 ∷ nat 0 ∷ nat 5 ∷ nat 10 ∷ nat 5 ∷ nat 0 ∷ []) [] van

-- with the demand of place 1
sample : ℤ → Problem
sample first = sample_with (pos 0 ∷ first ∷ pos 5 ∷ [])

sample_listing
    : listing (sample (pos 4)) ((1 ∷ 2 ∷ []) ∷ []) (record { steps = 2; draws = 0 }) 2
    ≡ bytes "routes 1\n1 9 25 1 2\nsteps 2 draws 0 given 2 left 1\n"
unfolding opened sample sample_with van
sample_listing = refl

-- a negative load, and a load of 0
other_loads
    : listing (sample (negsuc 6)) ((1 ∷ []) ∷ (2 ∷ []) ∷ []) (record { steps = 10; draws = 500 }) 3
    ≡ bytes "routes 2\n1 -7 20 1\n2 5 20 2\nsteps 10 draws 500 given 3 left 2\n"
unfolding opened sample sample_with van
other_loads = refl

-- the depot's own demand is in no load
depot_not_loaded : line_of (sample_with (pos 7 ∷ pos 4 ∷ pos 5 ∷ [])) 1 (1 ∷ 2 ∷ []) ≡ bytes "1 9 25 1 2\n"
unfolding opened sample_with van
depot_not_loaded = refl

no_routes : listing (sample (pos 4)) [] (record { steps = 0; draws = 0 }) 0 ≡ bytes "routes 0\nsteps 0 draws 0 given 0 left 0\n"
unfolding opened
no_routes = refl

refused_seven : refusal_line 7 ≡ bytes "refused 7\n"
unfolding opened
refused_seven = refl
