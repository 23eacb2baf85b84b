-- Laws of the definitions of `quick_test` (specs/Quick) on latest arrivals, each from the facts that the code has where it needs it. Assumes nothing.
use Prim.Native.Nat.{ℕ, suc, ◌<◌, ◌≤◌}
use native.Mathlib.Nat.{le_refl}
use native.Mathlib.Omega.{arith}
use mathlib.Core.Path.{◌≡◌, refl, sym, ap, ◌∙◌}
use mathlib.Core.List.{List, [], ◌∷◌, ◌++◌, append-nil}
use lib.ListN.{length, get_or, take, drop, set, length-append}
use lib.Seq.{take-suc, take-set-lt, take-set-le, drop-set-lt, append_snoc, set_at, length-take-le, get_or-append_seam}
use lib.Ieee.{Float, nan}
use Rattle.std.specs.List.{push}
use Rattle.latest_times.specs.floats.Binary64.{+∞}
use Rattle.latest_times.specs.models.Customer.{Customers, customer_at}
use Rattle.latest_times.specs.models.Problem.{DistanceMatrix, Stops}
use Rattle.latest_times.specs.quick_test.Quick.{latest_arrival, latest_arrivals}

-- ---- the walk from the last stop to the first

-- One cell more from the back: the first n cells, where those from j + 1 on were `later`, are now v and `later` from j on.
fill_back : (n j : ℕ) (out later : List Float) (v : Float) → j < n → n ≤ length out → take n out ≡ take (suc j) out ++ later
    → take n (set out j v) ≡ take j (set out j v) ++ v ∷ later
fill_back n j out later v h f e =
    take-set-lt n out j v h
    ∙ ap (λ (xs : List Float). set xs j v)
    (e ∙ ap (λ (xs : List Float). xs ++ later) (take-suc out j nan (omega arith)) ∙ append_snoc (take j out) (get_or out j nan) later)
    ∙ set_at (take j out) (get_or out j nan) later v j (length-take-le j out (omega arith))
    ∙ ap (λ (xs : List Float). xs ++ v ∷ later) (sym (take-set-le j out j v (le_refl j)))

-- the cells of the stops after `rest` hold what those stops give
pub record Backing (cs : Customers) (m : DistanceMatrix) (depot : ℕ) (route : List ℕ) (out₀ out : List Float) (by : Float) (next : ℕ) (rest : List ℕ) : Type 0 where
  pub later : List ℕ
  pub whole : route ≡ rest ++ later
  pub there : next < m.size
  pub nexts : next ≡ get_or later 0 depot
  pub bys : by ≡ get_or (latest_arrivals cs m depot later) 0 +∞
  pub cells : take (length route) out ≡ take (length rest) out ++ latest_arrivals cs m depot later
  pub others : drop (length route) out ≡ drop (length route) out₀

module _ (cs : Customers) (m : DistanceMatrix) (depot : ℕ) (route : List ℕ) (out₀ : List Float) where
  pub backing_start : (by : Float) (rest : List ℕ) → depot < m.size → rest ≡ route → by ≡ +∞ → Backing cs m depot route out₀ out₀ by depot rest
  unfolding latest_arrivals
  backing_start by rest h e eb = rw e record {
    later = [];
    whole = sym (append-nil route);
    there = h;
    nexts = refl;
    bys = eb;
    cells = sym (append-nil (take (length route) out₀));
    others = refl;
  }

  module _ (out : List Float) (by : Float) (next : ℕ) (rest : List ℕ) (b : Backing cs m depot route out₀ out by next rest) where
    module _ (front : List ℕ) (c : ℕ) (e : rest ≡ push front c) where
      here : route ≡ front ++ c ∷ b.later
      here = b.whole ∙ rw e (append_snoc front c b.later)

      inside : length front < length route
      inside = rw here (omega (arith, length-append front (c ∷ b.later)))

      size : length rest ≡ suc (length front)
      size = rw e (omega (arith, length-append front (c ∷ [])))

      pub backing_there : Stops m.size route → c < m.size
      backing_there s = rw (sym (ap (λ (r : List ℕ). get_or r (length front) 0) here ∙ get_or-append_seam front c b.later 0)) (s.each (length front) inside)

      pub backing_on : (v : Float) (i : ℕ) → Stops m.size route → length route ≤ length out → i ≡ length front → v ≡ latest_arrival m (customer_at cs c) c next by
          → Backing cs m depot route out₀ (set out i v) v c front
      unfolding latest_arrivals
      backing_on v i s room ei ev =
          let value : v ≡ latest_arrival m (customer_at cs c) c (get_or b.later 0 depot) (get_or (latest_arrivals cs m depot b.later) 0 +∞) =
          ev ∙ ap (λ (x : Float). latest_arrival m (customer_at cs c) c next x) b.bys
          ∙ ap (λ (j : ℕ). latest_arrival m (customer_at cs c) c j (get_or (latest_arrivals cs m depot b.later) 0 +∞)) b.nexts in
          rw ei record {
            later = c ∷ b.later;
            whole = here;
            there = backing_there s;
            nexts = refl;
            bys = value;
            cells = rw (← value) (fill_back (length route) (length front) out (latest_arrivals cs m depot b.later) v inside room (b.cells ∙ ap (λ (k : ℕ). take k out ++ latest_arrivals cs m depot b.later) size));
            others = drop-set-lt (length route) out (length front) v inside ∙ b.others;
          }

    pub backing_end : length rest ≡ 0 → take (length route) out ≡ latest_arrivals cs m depot route
    backing_end h = ends rest h b.whole b.cells
      where
        ends : (r : List ℕ) → length r ≡ 0 → route ≡ r ++ b.later → take (length route) out ≡ take (length r) out ++ latest_arrivals cs m depot b.later
            → take (length route) out ≡ latest_arrivals cs m depot route
        ends [] z w e = e ∙ ap (latest_arrivals cs m depot) (sym w)
        ends (x ∷ xs) z w e = absurd (omega arith)
