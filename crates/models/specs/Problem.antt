-- A problem as a whole: what every call is given besides its own plan or route ("The problem and the entry checks"). Assumes nothing.
use Rattle.std.specs.Prelude.{ℕ, ◌*◌, ◌≤◌, ◌<◌, ◌≡◌, List, [], length, get_or, ℤ, pos, nat_abs, Float}
use Rattle.models.specs.declared.vehicle.Vehicle.{Vehicle}
use Rattle.models.specs.Customer.{Customers, customers, Sized}

-- "Distances, and times if any, are lent N × N, row by row"
pub record DistanceMatrix : Type 0 where
  pub size : ℕ
  pub distances : List Float
  pub times : List Float

abbrev pub matrix : ℕ → List Float → List Float → DistanceMatrix
matrix n distances times = record { size = n; distances = distances; times = times }

-- "Places are 0 to N−1; a call is given N."
pub record Problem : Type 0 where
  pub demand : List ℤ
  pub places : Customers
  pub roads : DistanceMatrix
  pub vehicle : Vehicle

-- a problem of its four parts
abbrev pub problem_of : List ℤ → Customers → DistanceMatrix → Vehicle → Problem
problem_of demand places roads vehicle = record { demand = demand; places = places; roads = roads; vehicle = vehicle }

-- the problem of the slices as they are lent
abbrev pub problem : ℕ → List ℤ → List Float → List Float → List Float → List Float → List ℕ → List Float → List Float → Vehicle → Problem
problem n demand service ready due penalty flags distances times vehicle =
    problem_of demand (customers service ready due penalty flags) (matrix n distances times) vehicle

-- a problem of some parts, for what reads no other
abbrev pub of_demand : List ℤ → Vehicle → Problem
of_demand demand vehicle = problem 0 demand [] [] [] [] [] [] [] vehicle

abbrev pub of_distances : ℕ → List Float → Vehicle → Problem
of_distances n distances vehicle = problem n [] [] [] [] [] [] distances [] vehicle

-- the roads and a vehicle, for the cost of a plan, which reads no place and no demand
abbrev pub of_roads : DistanceMatrix → Vehicle → Problem
of_roads roads vehicle = problem_of [] (customers [] [] [] [] []) roads vehicle

-- the depot of a problem, where every route starts and ends
abbrev pub depot : Problem → ℕ
depot p = p.vehicle.depot_id

-- ---- what the functions inside ask for; the entry checks see to it

-- "times: 0 or N × N"
pub record Square (m : DistanceMatrix) : Type 0 where
  pub few : m.size ≤ 256
  pub distance_cells : length m.distances ≡ m.size * m.size
  pub time_cells : (length m.times ≡ 0 → ⊥) → length m.times ≡ m.size * m.size

-- slices of the right lengths, for the evaluation of a route
pub record Fit (cs : Customers) (m : DistanceMatrix) : Type 0 where
  pub sized : Sized cs m.size
  pub square : Square m

-- the stops of a route: places, and no more of them than there can be places
pub record Stops (n : ℕ) (route : List ℕ) : Type 0 where
  pub few : length route ≤ 256
  pub each : (k : ℕ) → k < length route → get_or route k 0 < n

-- a demand for each of n places, none outside −1,000,000..1,000,000
pub record Demands (n : ℕ) (demand : List ℤ) : Type 0 where
  pub cells : length demand ≡ n
  pub each : (k : ℕ) → nat_abs (get_or demand k (pos 0)) ≤ 1_000_000

-- what the searches ask of a problem: rows 1, 2 and 4 of the table leave it so
pub record Admitted (p : Problem) : Type 0 where
  pub fit : Fit p.places p.roads
  pub demands : Demands p.roads.size p.demand
  pub depot_in : depot p < p.roads.size
