-- Laws of specs/Feasible, each from the facts that the code has where it needs it. Assumes nothing.
use Prim.Native.Nat.{ℕ, ◌+◌, ◌*◌, ◌≤◌, ◌<◌}
use native.Mathlib.Omega.{arith}
use mathlib.Core.Path.{◌≡◌, refl, sym, ◌∙◌}
use mathlib.Core.Bool.{Bool, true, false, not, ◌||◌}
use mathlib.Core.List.{List, [], ◌∷◌}
use lib.ListN.{length, get_or, drop}
use lib.IntN.{ℤ, pos, nat_abs, ◌+ℤ◌}
use lib.Signed.{le_z}
use mir.Syntax.{w32}
use mir.Val.{SFits, to_z, of_z}
use mir.ValLaws.{to_z-of_z}
use borrow.Author.Rules.{rules}
use Rattle.route_cost.specs.laws.Ints.{nat_abs_add, sfits_abs}
use Rattle.route_cost.specs.laws.Loops.{foldl, fold_more, fold_end}
use Rattle.route_cost.specs.laws.Edits.{insert_at}
use Rattle.route_cost.specs.models.declared.limits.RouteLimits.{RouteLimits}
use Rattle.route_cost.specs.models.Customer.{Customers}
use Rattle.route_cost.specs.models.Problem.{DistanceMatrix, Problem, Demands, Stops}
use Rattle.route_cost.specs.evaluation.Check.{route_feasible}
use Rattle.route_load.specs.Feasible.{demand_at, load, fits, has_room, checked, feasible}
use Rattle.route_load.specs.RouteLaws.{has_room_fits}

-- ---- loads

abbrev adds : List ℤ → ℤ → ℕ → ℤ
adds demand sum c = sum +ℤ demand_at demand c

-- z is the load of the stops before i: the whole load is what the rest makes of it
pub record Loading (demand : List ℤ) (route : List ℕ) (z : ℤ) (i : ℕ) : Type 0 where
  pub demands : Demands (length demand) demand
  pub places : Stops (length demand) route
  pub within : i ≤ length route
  pub small : nat_abs z ≤ i * 1_000_000
  pub same : foldl (adds demand) (pos 0) route ≡ foldl (adds demand) z (drop i route)

module _ (demand : List ℤ) (route : List ℕ) where
  pub loading_start : Demands (length demand) demand → Stops (length demand) route → Loading demand route (pos 0) 0
  loading_start d s = record { demands = d; places = s; within = omega arith; small = omega arith; same = refl }

  pub loading_stop : (z : ℤ) (i : ℕ) → Loading demand route z i → i < length route → get_or route i 0 < length demand
  loading_stop z i l h = l.places.each i h

  module _ (z : ℤ) (i : ℕ) (l : Loading demand route z i) (h : i < length route) where
    sum_small : nat_abs (z +ℤ demand_at demand (get_or route i 0)) ≤ (i + 1) * 1_000_000
    sum_small = omega (arith, nat_abs_add z (demand_at demand (get_or route i 0)), l.small, l.demands.each (get_or route i 0))

    -- an element is its bits, read back
    one_back : to_z w32 (of_z w32 (demand_at demand (get_or route i 0))) ≡ demand_at demand (get_or route i 0)
    one_back = to_z-of_z w32 (demand_at demand (get_or route i 0)) (sfits_abs w32 (demand_at demand (get_or route i 0)) (omega (arith, l.demands.each (get_or route i 0))))

    pub whole_fits : SFits w32 (z +ℤ demand_at demand (get_or route i 0))
    whole_fits = sfits_abs w32 (z +ℤ demand_at demand (get_or route i 0)) (omega (arith, sum_small, l.places.few))

    pub sum_fits : SFits w32 (z +ℤ to_z w32 (of_z w32 (demand_at demand (get_or route i 0))))
    sum_fits = rw one_back whole_fits

    pub loading_on : Loading demand route (z +ℤ demand_at demand (get_or route i 0)) (i + 1)
    loading_on = record {
      demands = l.demands;
      places = l.places;
      within = omega arith;
      small = sum_small;
      same = fold_more (adds demand) 0 route (pos 0) z i l.same h;
    }

    pub loading_more : Loading demand route (to_z w32 (of_z w32 (z +ℤ to_z w32 (of_z w32 (demand_at demand (get_or route i 0)))))) (i + 1)
    loading_more =
        rw (one_back, to_z-of_z w32 (z +ℤ demand_at demand (get_or route i 0)) whole_fits)
        loading_on

  pub loading_end : (z : ℤ) (i : ℕ) → Loading demand route z i → length route ≤ i → z ≡ load demand route
  unfolding load
  loading_end z i l h = fold_end (adds demand) 0 route (pos 0) z i l.same h

pub ruleset loading_laws = (rules, loading_start, loading_stop, sum_fits, whole_fits, loading_more, loading_on, loading_end)

-- ---- tests on loads: what is kept in an i32 is the number itself

pub load_small : (demand : List ℤ) (route : List ℕ) → Demands (length demand) demand → Stops (length demand) route → nat_abs (load demand route) ≤ 256_000_000
unfolding load foldl
load_small demand route d s = omega (arith, go 0 route (pos 0) (omega arith), s.few)
  where
    go : (i : ℕ) (r : List ℕ) (z : ℤ) → nat_abs z ≤ i * 1_000_000 → nat_abs (foldl (adds demand) z r) ≤ (i + length r) * 1_000_000
    go i [] z h = omega arith
    go i (c ∷ r) z h =
        let k : nat_abs (z +ℤ demand_at demand c) ≤ (i + 1) * 1_000_000 = omega (arith, nat_abs_add z (demand_at demand c), d.each c) in
        omega (arith, go (i + 1) r (z +ℤ demand_at demand c) k)

-- a number that is small is its bits, read back
back : (z : ℤ) → nat_abs z ≤ 257_000_000 → to_z w32 (of_z w32 z) ≡ z
back z h = to_z-of_z w32 z (sfits_abs w32 z (omega arith))

module _ (demand : List ℤ) (d : Demands (length demand) demand) where
  module _ (c : ℕ) (sum : ℤ) (h : nat_abs sum ≤ 256_000_000) where
    both_small : nat_abs (sum +ℤ demand_at demand c) ≤ 257_000_000
    both_small = omega (arith, nat_abs_add sum (demand_at demand c), d.each c)

    both_back : to_z w32 (of_z w32 sum) +ℤ to_z w32 (of_z w32 (demand_at demand c)) ≡ sum +ℤ demand_at demand c
    both_back = rw (back sum (omega arith), back (demand_at demand c) (omega (arith, d.each c)))

    pub room_fits : SFits w32 (to_z w32 (of_z w32 sum) +ℤ to_z w32 (of_z w32 (demand_at demand c)))
    room_fits = rw both_back (sfits_abs w32 (sum +ℤ demand_at demand c) (omega (arith, both_small)))

    pub room_is : (most : ℤ) → SFits w32 most
        → le_z (to_z w32 (of_z w32 (to_z w32 (of_z w32 sum) +ℤ to_z w32 (of_z w32 (demand_at demand c))))) (to_z w32 (of_z w32 most)) ≡ le_z (sum +ℤ demand_at demand c) most
    room_is most f = rw (both_back, back (sum +ℤ demand_at demand c) both_small, to_z-of_z w32 most f)

  module _ (route : List ℕ) (s : Stops (length demand) route) (x : ℤ) (e : x ≡ load demand route) where
    load_back : to_z w32 (of_z w32 x) ≡ load demand route
    load_back = rw e (back (load demand route) (omega (arith, load_small demand route d s)))

    pub load_kept : nat_abs (to_z w32 (of_z w32 x)) ≤ 256_000_000
    load_kept = rw load_back (load_small demand route d s)

    pub load_within : (most : ℤ) → SFits w32 most → le_z (to_z w32 (of_z w32 x)) (to_z w32 (of_z w32 most)) ≡ le_z (load demand route) most
    load_within most f = rw (load_back, to_z-of_z w32 most f)

pub ruleset load_laws = (rules, room_fits, room_is, load_kept, load_within)

-- a demand for each of n places is one for each of its cells
module _ (n : ℕ) (demand : List ℤ) (d : Demands n demand) where
  pub demands_own : Demands (length demand) demand
  demands_own = record { cells = refl; each = d.each }

  pub stops_own : (route : List ℕ) → Stops n route → Stops (length demand) route
  stops_own route s = rw d.cells s

  pub place_own : (c : ℕ) → c < n → c < length demand
  place_own c h = rw d.cells h

pub ruleset own_laws = (rules, demands_own, stops_own, place_own)

-- ---- the check, where it is needed

module _ (cs : Customers) (m : DistanceMatrix) (depot : ℕ) (k l : RouteLimits) (r : List ℕ) (b needed v : Bool) where
  pub check_made : needed ≡ b → needed ≡ true → l ≡ k → v ≡ route_feasible cs m depot l r → v ≡ (not b || route_feasible cs m depot k r)
  check_made e t el ev = rw (← e, t, ← el) ev

pub check_unmade : (b needed w : Bool) → needed ≡ b → needed ≡ false → true ≡ (not b || w)
check_unmade b needed w e f = rw (← e, f)

pub ruleset check_laws = (check_made, check_unmade)

-- ---- feasible: the load first

module _ (p : Problem) (r : List ℕ) (v : Bool) (ev : v ≡ fits p (load p.demand r)) where
  pub feasible_over : v ≡ false → false ≡ feasible p r
  unfolding feasible
  feasible_over e = rw (← ev, e)

  pub feasible_within : (w : Bool) → v ≡ true → w ≡ checked p r → w ≡ feasible p r
  unfolding feasible
  feasible_within w e ew = rw (← ev, e) ew

pub ruleset feasible_laws = (feasible_over, feasible_within)

-- a trial route is feasible where the route has room and the trial passes the check
module _ (p : Problem) (pos c : ℕ) (r : List ℕ) (v : Bool) (ev : v ≡ has_room p r c) where
  pub trial_full : v ≡ false → false ≡ feasible p (insert_at pos c r)
  trial_full e = feasible_over p (insert_at pos c r) v (ev ∙ sym (has_room_fits p pos c r)) e

  pub trial_within : (w : Bool) → v ≡ true → w ≡ checked p (insert_at pos c r) → w ≡ feasible p (insert_at pos c r)
  trial_within w e ew = feasible_within p (insert_at pos c r) v (ev ∙ sym (has_room_fits p pos c r)) w e ew

pub ruleset trial_laws = (trial_full, trial_within)
