-- The refusal table ("The problem and the entry checks"): one list of rows in order. Every public call reads its refusal from it. Assumes nothing.
use Rattle.std.specs.Prelude.{ℕ, List, [], ◌∷◌, Bool, true, false, cond, not, ◌&&◌, ◌||◌, length, get_or, take, eqb, ltb, Some}
use Rattle.std.specs.Prelude.{Option, None, Some}
use Rattle.local_search.specs.laws.Searches.{any, every}
use Rattle.local_search.specs.models.declared.vehicle.VehicleBreak.{VehicleBreak}
use Rattle.local_search.specs.models.Problem.{Problem, depot}
use Rattle.local_search.specs.models.Valid.{rest_passes, sizes_pass, values_pass, windows_pass, depot_passes}
use Rattle.local_search.specs.plan.Plan.{Slices, total}
use Rattle.entry.specs.declared.Work.{Work}

-- What a call is given: none where the call has no such input.
pub record Inputs : Type 0 where
  pub problem : Problem
  pub rest : Option VehicleBreak
  pub plan : Option Slices
  pub route : Option (List ℕ)
  pub tape : Option (List ℕ)
  pub limit : Option ℕ
  pub work : Option Work

-- a test of an input: "a row applies where a call has that input"
abbrev pub if_given : {A : Type 0} → (A → Bool) → Option A → Bool
if_given test None = false
if_given test (Some a) = test a

-- ---- the rows' tests

-- row 2: the break that `schedule` is given beside the problem has floats too
abbrev pub bad_break : VehicleBreak → Bool
bad_break b = not (rest_passes (Some b))

-- row 5: "over 256 routes, or lengths do not sum to the number of stops"
unfoldable pub bad_lengths : Slices → Bool
bad_lengths s = ltb 256 (length s.lengths) || not (eqb (total s.lengths) (length s.stops))

-- row 6: "a stop ≥ N, equal to the depot, or present twice", that is, among those before it
unfoldable pub stop_passes : Problem → List ℕ → ℕ → Bool
stop_passes p before c = ltb c p.roads.size && (not (eqb c (depot p)) && not (any (eqb c) before))

unfoldable pub stops_pass : Problem → List ℕ → Bool
stops_pass p stops = every (λ k. stop_passes p (take k stops) (get_or stops k 0)) (length stops) 0

-- row 7: "the draw tape is empty"
abbrev pub is_empty : List ℕ → Bool
is_empty [] = true
is_empty (w ∷ ws) = false

-- row 9: "fewer than 8,192 u16 or 2,048 f64 work cells"
unfoldable pub too_few : Work → Bool
too_few w = ltb w.u16_cells 8192 || ltb w.f64_cells 2048

-- ---- the table

-- "returned", and "when"
pub record Row : Type 0 where
  pub number : ℕ
  pub applies : Inputs → Bool

abbrev row : ℕ → (Inputs → Bool) → Row
row n f = record { number = n; applies = f }

-- "The table is the order of checks"
unfoldable pub table : List Row
table =
    -- "N is 0 or over 256, or a slice has the wrong length (times: 0 or N × N)"
    row 1 (λ i. not (sizes_pass i.problem)) ∷
    -- "any float of the problem .. is non-finite, has its sign bit set .. or exceeds 1e12; cost per distance ..; demand ..; flags over 3"
    row 2 (λ i. not (values_pass i.problem) || if_given bad_break i.rest) ∷
    -- "a window has ready > due"
    row 3 (λ i. not (windows_pass i.problem)) ∷
    -- "depot ≥ N"
    row 4 (λ i. not (depot_passes i.problem)) ∷
    row 5 (λ i. if_given bad_lengths i.plan) ∷
    row 6 (λ i. if_given (λ s. not (stops_pass i.problem s.stops)) i.plan || if_given (λ r. not (stops_pass i.problem r)) i.route) ∷
    row 7 (λ i. if_given is_empty i.tape) ∷
    -- "step limit over 65,535"
    row 8 (λ i. if_given (λ m. ltb 65535 m) i.limit) ∷
    row 9 (λ i. if_given too_few i.work) ∷
    []

-- the number of the first of some rows that applies
unfoldable pub first_applying : List Row → Inputs → Option ℕ
first_applying [] i = None
first_applying (r ∷ rs) i = cond (r.applies i) (Some r.number) (first_applying rs i)

-- what a call is refused with: the first number that applies
unfoldable pub refusal : Inputs → Option ℕ
refusal i = first_applying table i
