-- What a valid problem gives: slices of the right lengths, a depot that is a place, and every float an amount (finite, sign clear, at most 1e12).
-- That the floats are values of binary64, which every f64 is, is a hypothesis here, since a definition's `Float` may have more digits. Assumes nothing.
use Prim.Native.Nat.{ℕ, ◌*◌, ◌≤◌, ◌<◌}
use native.Mathlib.Omega.{arith}
use mathlib.Core.Path.{◌≡◌, refl, sym, ap, ◌∙◌}
use mathlib.Core.Bool.{Bool, true, false, false≢true, cond, not, ◌&&◌, ◌||◌}
use mathlib.Core.List.{List}
use mathlib.Core.Logic.{◌⊎◌, inl, inr}
use lib.ListN.{length, get_or, get_or-eq_default}
use lib.Dec.{eqb, leb, ltb}
use lib.Ieee.{Float, nan, inf, fin, binary64, fits}
use lib.IntN.{ℤ, pos, negsuc, nat_abs}
use borrow.Author.Tests.{eqb-true, leb-true, ltb-true, ltb-false}
use Rattle.float_functions.specs.floats.Binary64.{is_sign_negative}
use Rattle.float_functions.specs.floats.Inputs.{Amount, amount_of}
use Rattle.float_functions.specs.laws.Searches.{and_first, and_second, every, every_at}
use Rattle.models.specs.Customer.{Sized, windowed, penalised}
use Rattle.models.specs.Problem.{Problem, Square, Fit, Demands, depot}
use Rattle.models.specs.Valid.{count_passes, cells_pass, matrix_passes, sizes_pass, is_amount, amounts_pass, window_passes, penalty_passes, demand_passes, place_passes, vehicle_passes, values_pass, windows_pass, depot_passes, valid}

-- ---- a test on one float

-- a value of binary64
abbrev pub Binary64 : Float → Type 0
Binary64 x = fits binary64 x ≡ true

pub amount_is : (x : Float) → Binary64 x → is_amount x ≡ true → Amount x
unfolding is_amount is_sign_negative
amount_is nan f e = absurd (false≢true e)
amount_is (inf s) f e = absurd (false≢true e)
amount_is (fin true m k) f e = absurd (false≢true e)
amount_is (fin false m k) f e = amount_of (fin false m k) f refl e

-- the cells of a slice are values of binary64
pub record Cells (xs : List Float) : Type 0 where
  pub each : (k : ℕ) → k < length xs → Binary64 (get_or xs k nan)

-- every f64 of the slices is one
pub record Floats (p : Problem) : Type 0 where
  pub service : Cells p.places.service
  pub ready : Cells p.places.ready
  pub due : Cells p.places.due
  pub penalty : Cells p.places.penalty
  pub distances : Cells p.roads.distances
  pub times : Cells p.roads.times

cells_amount : (xs : List Float) → Cells xs → amounts_pass xs ≡ true → (k : ℕ) → k < length xs → Amount (get_or xs k nan)
cells_amount xs f e k h = amount_is (get_or xs k nan) (f.each k h) (every_at (λ i. is_amount (get_or xs i nan)) (length xs) k e h)

-- ---- the rows, one by one

demand_small : (d : ℤ) → demand_passes d ≡ true → nat_abs d ≤ 1_000_000
demand_small (pos n) e = leb-true n 1_000_000 e
demand_small (negsuc n) e = omega (arith, leb-true n 999_999 (and_first (leb n 999_999) true e))

either : (a b : Bool) → (a || b) ≡ true → (a ≡ true) ⊎ (b ≡ true)
either true b e = inl refl
either false b e = inr e

-- row 1
module _ (p : Problem) (row_1 : sizes_pass p ≡ true) where
  sizes : (count_passes p.roads.size ≡ true) × (eqb (length p.demand) p.roads.size ≡ true) × (cells_pass p.places p.roads.size ≡ true) × (matrix_passes p.roads ≡ true)
  unfolding sizes_pass
  sizes =
      let a = count_passes p.roads.size in
      let b = eqb (length p.demand) p.roads.size in
      let c = cells_pass p.places p.roads.size in
      let d = matrix_passes p.roads in
      let r = and_second a (b && (c && d)) row_1 in
      let s = and_second b (c && d) r in
      (and_first a (b && (c && d)) row_1, and_first b (c && d) r, and_first c d s, and_second c d s)

  pub sizes_count : p.roads.size ≤ 256
  sizes_count = leb-true p.roads.size 256 (and_second (not (eqb p.roads.size 0)) (leb p.roads.size 256) sizes.0)

  pub sizes_demand : length p.demand ≡ p.roads.size
  sizes_demand = eqb-true (length p.demand) p.roads.size sizes.1

  pub sizes_sized : Sized p.places p.roads.size
  sizes_sized =
      let cs = p.places in
      let k = p.roads.size in
      let a = eqb (length cs.service) k in
      let b = eqb (length cs.ready) k in
      let c = eqb (length cs.due) k in
      let d = eqb (length cs.penalty) k in
      let e = eqb (length cs.flags) k in
      let r = and_second a (b && (c && (d && e))) sizes.2 in
      let s = and_second b (c && (d && e)) r in
      let t = and_second c (d && e) s in
      record {
        service_cells = eqb-true (length cs.service) k (and_first a (b && (c && (d && e))) sizes.2);
        ready_cells = eqb-true (length cs.ready) k (and_first b (c && (d && e)) r);
        due_cells = eqb-true (length cs.due) k (and_first c (d && e) s);
        penalty_cells = eqb-true (length cs.penalty) k (and_first d e t);
        flag_cells = eqb-true (length cs.flags) k (and_second d e t);
      }

  pub sizes_square : Square p.roads
  sizes_square =
      let m = p.roads in
      let a = eqb (length m.distances) (m.size * m.size) in
      let b = eqb (length m.times) 0 in
      let c = eqb (length m.times) (m.size * m.size) in
      record {
        few = sizes_count;
        distance_cells = eqb-true (length m.distances) (m.size * m.size) (and_first a (b || c) sizes.3);
        time_cells = go b c (eqb-true (length m.times) 0) (eqb-true (length m.times) (m.size * m.size)) (either b c (and_second a (b || c) sizes.3));
      }
    where
      go : (b c : Bool) → (b ≡ true → length p.roads.times ≡ 0) → (c ≡ true → length p.roads.times ≡ p.roads.size * p.roads.size)
          → (b ≡ true) ⊎ (c ≡ true) → (length p.roads.times ≡ 0 → ⊥) → length p.roads.times ≡ p.roads.size * p.roads.size
      go b c f g (inl e) h = absurd (h (f e))
      go b c f g (inr e) h = g e

module _ (p : Problem) (v : valid p ≡ true) where
  row_1 : sizes_pass p ≡ true
  unfolding valid
  row_1 = and_first (sizes_pass p) (values_pass p && (windows_pass p && depot_passes p)) v

  row_2 : values_pass p ≡ true
  unfolding valid
  row_2 = and_first (values_pass p) (windows_pass p && depot_passes p) (and_second (sizes_pass p) (values_pass p && (windows_pass p && depot_passes p)) v)

  row_4 : depot_passes p ≡ true
  unfolding valid
  row_4 =
      and_second (windows_pass p) (depot_passes p)
      (and_second (values_pass p) (windows_pass p && depot_passes p) (and_second (sizes_pass p) (values_pass p && (windows_pass p && depot_passes p)) v))

  pub valid_depot : depot p < p.roads.size
  valid_depot = ltb-true (depot p) p.roads.size row_4

  pub valid_count : p.roads.size ≤ 256
  valid_count = sizes_count p row_1

  pub valid_demand : length p.demand ≡ p.roads.size
  valid_demand = sizes_demand p row_1

  pub valid_sized : Sized p.places p.roads.size
  valid_sized = sizes_sized p row_1

  pub valid_square : Square p.roads
  valid_square = sizes_square p row_1

  pub valid_fit : Fit p.places p.roads
  valid_fit = record { sized = valid_sized; square = valid_square }

  -- row 2
  values : (vehicle_passes p.vehicle ≡ true) × (amounts_pass p.places.service ≡ true) × (amounts_pass p.roads.distances ≡ true)
      × (amounts_pass p.roads.times ≡ true) × (every (place_passes p.demand p.places) (length p.demand) 0 ≡ true)
  unfolding values_pass
  values =
      let a = vehicle_passes p.vehicle in
      let b = amounts_pass p.places.service in
      let c = amounts_pass p.roads.distances in
      let d = amounts_pass p.roads.times in
      let e = every (place_passes p.demand p.places) (length p.demand) 0 in
      let r = and_second a (b && (c && (d && e))) row_2 in
      let s = and_second b (c && (d && e)) r in
      let t = and_second c (d && e) s in
      (and_first a (b && (c && (d && e))) row_2, and_first b (c && (d && e)) r, and_first c (d && e) s, and_first d e t, and_second d e t)

  pub valid_demands : Demands p.roads.size p.demand
  valid_demands = record { cells = valid_demand; each = λ k. go k (ltb k (length p.demand)) refl }
    where
      go : (k : ℕ) (t : Bool) → ltb k (length p.demand) ≡ t → nat_abs (get_or p.demand k (pos 0)) ≤ 1_000_000
      go k true e =
          let a = leb (get_or p.places.flags k 0) 3 in
          let b = window_passes p.places k in
          let d = penalty_passes p.places k in
          let z = demand_passes (get_or p.demand k (pos 0)) in
          let r = every_at (place_passes p.demand p.places) (length p.demand) k values.4 (ltb-true k (length p.demand) e) in
          demand_small (get_or p.demand k (pos 0)) (and_second d z (and_second b (d && z) (and_second a (b && (d && z)) r)))
      go k false e = rw (get_or-eq_default p.demand (pos 0) (ltb-false k (length p.demand) e)) (omega arith)

  module _ (f : Floats p) where
    pub valid_service : (c : ℕ) → c < p.roads.size → Amount (get_or p.places.service c nan)
    valid_service c h = cells_amount p.places.service f.service values.1 c (rw valid_sized.service_cells h)

    pub valid_distances : (k : ℕ) → k < length p.roads.distances → Amount (get_or p.roads.distances k nan)
    valid_distances k h = cells_amount p.roads.distances f.distances values.2 k h

    pub valid_times : (k : ℕ) → k < length p.roads.times → Amount (get_or p.roads.times k nan)
    valid_times k h = cells_amount p.roads.times f.times values.3 k h

    place : (c : ℕ) → c < p.roads.size → (window_passes p.places c ≡ true) × (penalty_passes p.places c ≡ true)
    place c h =
        let a = leb (get_or p.places.flags c 0) 3 in
        let b = window_passes p.places c in
        let d = penalty_passes p.places c in
        let r = every_at (place_passes p.demand p.places) (length p.demand) c values.4 (rw valid_demand h) in
        let e = demand_passes (get_or p.demand c (pos 0)) in
        let s = and_second a (b && (d && e)) r in
        let t = and_second b (d && e) s in
        (and_first b (d && e) s, and_first d e t)

    pub valid_window : (c : ℕ) → c < p.roads.size → windowed (get_or p.places.flags c 0) ≡ true
        → Amount (get_or p.places.ready c nan) × Amount (get_or p.places.due c nan)
    valid_window c h w =
        let a = is_amount (get_or p.places.ready c nan) in
        let b = is_amount (get_or p.places.due c nan) in
        let e : (a && b) ≡ true = sym (ap (λ (t : Bool). cond t (a && b) true) w) ∙ (place c h).0 in (
          amount_is (get_or p.places.ready c nan) (f.ready.each c (rw valid_sized.ready_cells h)) (and_first a b e),
          amount_is (get_or p.places.due c nan) (f.due.each c (rw valid_sized.due_cells h)) (and_second a b e),
        )

    pub valid_penalty : (c : ℕ) → c < p.roads.size → penalised (get_or p.places.flags c 0) ≡ true → Amount (get_or p.places.penalty c nan)
    valid_penalty c h w =
        amount_is (get_or p.places.penalty c nan) (f.penalty.each c (rw valid_sized.penalty_cells h))
        (sym (ap (λ (t : Bool). cond t (is_amount (get_or p.places.penalty c nan)) true) w) ∙ (place c h).1)
