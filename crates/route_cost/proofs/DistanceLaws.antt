-- Laws of specs/Route, each from the facts that the code has where it needs it. Assumes nothing.
use Prim.Native.Nat.{ℕ, suc, ◌+◌, ◌*◌, ◌≤◌, ◌<◌}
use native.Mathlib.Numerals.{add-one}
use native.Mathlib.Omega.{arith}
use mathlib.Core.Path.{◌≡◌, refl, sym, ◌∙◌}
use mathlib.Core.List.{List, [], ◌∷◌}
use lib.ListN.{length, get_or, drop, drop_of_length-le}
use lib.Seq.{drop-cons}
use lib.Ieee.{Float}
use borrow.Author.Rules.{rules}
use Rattle.evaluation_laws.specs.floats.Binary64.{◌⊕◌, 0f}
use Rattle.evaluation_laws.specs.models.Problem.{DistanceMatrix, Stops}
use Rattle.evaluation_laws.specs.distance.Matrix.{get}
use Rattle.route_cost.specs.Route.{legs, route_distance}

-- ---- a route of a first stop and some more: what has come so far of these, and the legs that are left

pub record Going (m : DistanceMatrix) (depot : ℕ) (route rest : List ℕ) (dist : Float) (prev i : ℕ) : Type 0 where
  pub few : m.size ≤ 256
  pub cells : length m.distances ≡ m.size * m.size
  pub ends : depot < m.size
  pub places : (k : ℕ) → k < length rest → get_or rest k 0 < m.size
  pub there : prev < m.size
  pub same : route_distance m depot route ≡ legs m depot dist prev (drop i rest)

module _ (m : DistanceMatrix) (depot : ℕ) (route : List ℕ) where
  pub no_stops : length route ≡ 0 → 0f ≡ route_distance m depot route
  unfolding route_distance
  no_stops e = go route e
    where
      go : (r : List ℕ) → length r ≡ 0 → 0f ≡ route_distance m depot r
      go [] e = refl
      go (c ∷ cs) e = absurd (omega arith)

  module _ (first : ℕ) (rest : List ℕ) (e : route ≡ first ∷ rest) (s : Stops m.size route) where
    stop_there : (k : ℕ) → k < length (first ∷ rest) → get_or (first ∷ rest) k 0 < m.size
    stop_there = rw e at s.each

    pub first_there : first < m.size
    first_there = stop_there 0 (omega arith)

    pub going_start : (x : Float) → m.size ≤ 256 → length m.distances ≡ m.size * m.size → depot < m.size → x ≡ get m depot first
        → Going m depot route rest x first 0
    unfolding route_distance
    going_start x few cells h ex =
        record { few = few; cells = cells; ends = h; places = λ k i. stop_there (suc k) (omega arith); there = first_there; same = rw (e, ex) refl }

  module _ (rest : List ℕ) (dist x : Float) (prev i : ℕ) (g : Going m depot route rest dist prev i) where
    pub next_there : i < length rest → get_or rest i 0 < m.size
    next_there h = g.places i h

    pub going_on : i < length rest → x ≡ get m prev (get_or rest i 0) → Going m depot route rest (dist ⊕ x) (get_or rest i 0) (i + 1)
    unfolding legs
    going_on h e =
        record {
          few = g.few;
          cells = g.cells;
          ends = g.ends;
          places = g.places;
          there = g.places i h;
          same = g.same ∙ rw (drop-cons rest i 0 h, add-one i, e);
        }

    pub going_home : length rest ≤ i → x ≡ get m prev depot → dist ⊕ x ≡ route_distance m depot route
    unfolding legs
    going_home h e = sym (g.same ∙ rw (drop_of_length-le rest h, e))

pub ruleset going_laws = (rules, no_stops, first_there, going_start, next_there, going_on, going_home)
