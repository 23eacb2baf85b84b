-- What the functions of the ejection ask for, and what follows for a kept part. Assumes nothing.
use Rattle.std.specs.Prelude.{ℕ, suc, ◌+◌, ◌-◌, ◌≤◌, ◌<◌, ◌≡◌, List, length, get_or}
use Rattle.std.proofs.Common.{arith, length-append, length-take, length-drop}
use Rattle.insertion.specs.laws.All.{all_of, all_get, all_append, all_take, all_drop}
use Rattle.insertion.specs.models.Problem.{Stops}
use Rattle.ejection.specs.Eject.{kept}

-- a number of failures for each of n places: 1, and no more than one for each of 65,535 steps
pub record Counted (n : ℕ) (failures : List ℕ) : Type 0 where
  pub cells : length failures ≡ n
  pub each : (k : ℕ) → get_or failures k 0 ≤ 65536

-- how many stops are kept
pub kept_length : (i j : ℕ) (r : List ℕ) → i ≤ j → j < length r → length (kept i j r) ≡ i + (j - suc i) + (length r - (j + 1))
unfolding kept
kept_length i j r h g = simp (length-append, length-take, length-drop) (omega arith)

-- the kept part of a route is one of stops
pub kept_stops : (n i j : ℕ) (r : List ℕ) → i ≤ j → j < length r → Stops n r → Stops n (kept i j r)
unfolding kept
kept_stops n i j r h g s =
    let all = all_of {P = λ (c : ℕ). c < n} r 0 s.each in
    record {
      few = omega (arith, kept_length i j r h g, s.few);
      each = λ k h. all_get k 0 (all_append (all_take i all) (all_append (all_take (j - suc i) (all_drop (suc i) all)) (all_drop (suc j) all))) h;
    }
