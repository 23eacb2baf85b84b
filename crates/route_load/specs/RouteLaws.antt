-- Laws of one route: the load of a route with a stop put in, the check where it is not needed, what a feasible route keeps; and the cost of a
-- plan is an f64, wherever the sum starts. Assumes nothing.
use Rattle.std.specs.Prelude.{ℕ, ◌≡◌, Bool, true, false, not, ◌||◌, take, ℤ, pos as nonneg, ◌+ℤ◌, T, Float}
use Rattle.std.proofs.Math.Path.{refl, sym, ap}
use Rattle.std.proofs.Common.{◌∙◌, take-append-drop}
use mathlib.Core.List.{List, [], ◌∷◌, ◌++◌}
use Rattle.std.proofs.Math.ListN.{drop}
use Rattle.std.proofs.Math.IntN.{+ℤ_idl, +ℤ_idr, +ℤ_assoc, +ℤ_comm}
use Rattle.std.specs.Float.{binary64}
use Rattle.std.specs.Float.Ieee.{of_bits, fits as is-f64}
use Rattle.std.specs.Float.Ieee.Fits.{add-fits}
use Rattle.route_cost.specs.floats.Binary64.{◌⊕◌, 0f, -0f}
use Rattle.route_cost.specs.floats.Plain.{plain, add_zero_left, add_minus_zero_left}
use Rattle.route_cost.specs.laws.Edits.{insert_at}
use Rattle.route_cost.specs.laws.Loops.{foldl}
use Rattle.route_cost.specs.laws.Searches.{and_first, and_second}
use Rattle.route_cost.specs.models.Vehicle.{fixed_cost_in_distance}
use Rattle.route_cost.specs.models.RouteLimits.{limits_of}
use Rattle.route_cost.specs.models.Problem.{Problem, depot}
use Rattle.route_cost.specs.plan.Plan.{Plan}
use Rattle.route_cost.specs.EvaluationLawsAgreement.{unneeded_passes}
use Rattle.route_cost.specs.Route.{route_distance, cost}
use Rattle.route_load.specs.Feasible.{Sound, demand_at, load, fits, has_room, constrained, passes, checked, feasible}

-- ---- loads

module _ (demand : List ℤ) where
  load_from : (s : ℤ) (r : List ℕ) → foldl (λ sum c. sum +ℤ demand_at demand c) s r ≡ s +ℤ load demand r
  unfolding foldl load
  load_from s [] = sym (+ℤ_idr s)
  load_from s (c ∷ r) =
      let d = demand_at demand c in
      load_from (s +ℤ d) r ∙ +ℤ_assoc s d (load demand r) ∙ ap (λ (z : ℤ). s +ℤ z) (sym (load_from (nonneg 0 +ℤ d) r ∙ ap (λ (z : ℤ). z +ℤ load demand r) (+ℤ_idl d)))

  pub load_cons : (c : ℕ) (r : List ℕ) → load demand (c ∷ r) ≡ demand_at demand c +ℤ load demand r
  unfolding foldl load
  load_cons c r = load_from (nonneg 0 +ℤ demand_at demand c) r ∙ ap (λ (z : ℤ). z +ℤ load demand r) (+ℤ_idl (demand_at demand c))

  pub load_append : (r s : List ℕ) → load demand (r ++ s) ≡ load demand r +ℤ load demand s
  load_append [] s =
      let none : load demand [] ≡ nonneg 0 = unfold load foldl in refl in
      sym (ap (λ (z : ℤ). z +ℤ load demand s) none ∙ +ℤ_idl (load demand s))
  load_append (c ∷ r) s =
      let d = demand_at demand c in
      load_cons c (r ++ s) ∙ ap (λ (z : ℤ). d +ℤ z) (load_append r s) ∙ sym (+ℤ_assoc d (load demand r) (load demand s)) ∙ ap (λ (z : ℤ). z +ℤ load demand s) (sym (load_cons c r))

  -- a stop put in adds its demand, wherever it goes
  pub load_insert : (pos c : ℕ) (r : List ℕ) → load demand (insert_at pos c r) ≡ load demand r +ℤ demand_at demand c
  unfolding insert_at
  load_insert pos c r =
      let a = load demand (take pos r) in
      let b = load demand (drop pos r) in
      let d = demand_at demand c in
      load_append (take pos r) (c ∷ drop pos r)
      ∙ ap (λ (z : ℤ). a +ℤ z) (load_cons c (drop pos r) ∙ +ℤ_comm d b)
      ∙ sym (+ℤ_assoc a b d)
      ∙ ap (λ (z : ℤ). z +ℤ d) (sym (load_append (take pos r) (drop pos r)) ∙ ap (load demand) (take-append-drop pos r))

-- the load test made before the stop is put in is the load test of the route with it
pub has_room_fits : (p : Problem) (pos c : ℕ) (r : List ℕ) → fits p (load p.demand (insert_at pos c r)) ≡ has_room p r c
unfolding has_room
has_room_fits p pos c r = ap (fits p) (load_insert p.demand pos c r)

-- ---- the check where it is not needed

pub unneeded : (p : Problem) (r : List ℕ) → constrained p ≡ false → passes p r ≡ true
unneeded p r e = unneeded_passes p.places p.roads (depot p) (limits_of p.vehicle) r e

-- ---- what a feasible route keeps: "within capacity and passes the check"

checked_passes : (p : Problem) (r : List ℕ) → checked p r ≡ true → passes p r ≡ true
checked_passes p r h = go (constrained p) refl h
  where
    go : (b : Bool) → constrained p ≡ b → (not b || passes p r) ≡ true → passes p r ≡ true
    go true e h = h
    go false e h = unneeded p r e

pub feasible_sound : (p : Problem) (r : List ℕ) → feasible p r ≡ true → Sound p r
unfolding feasible
feasible_sound p r h =
    let a = fits p (load p.demand r) in
    record { within_capacity = and_first a (checked p r) h; passes_check = checked_passes p r (and_second a (checked p r) h) }

-- ---- the cost of a plan is an f64

pub cost_held : (p : Problem) (routes : Plan) → T (is-f64 binary64 (cost p routes))
unfolding cost foldl of_bits is-f64
cost_held p routes = from 0f routes tt
  where
    from : (s : Float) (routes : Plan) → T (is-f64 binary64 s)
        → T (is-f64 binary64 (foldl (λ sum r. sum ⊕ (route_distance p.roads (depot p) r ⊕ fixed_cost_in_distance p.vehicle)) s routes))
    from s [] h = h
    from s (r ∷ routes) h =
        let more = route_distance p.roads (depot p) r ⊕ fixed_cost_in_distance p.vehicle in
        from (s ⊕ more) routes (add-fits binary64 s more)

-- Rust's sum starts at −0.0: the same, where the first route's term has its sign clear
pub cost_start : (p : Problem) (r : List ℕ) (routes : Plan) → T (plain (route_distance p.roads (depot p) r ⊕ fixed_cost_in_distance p.vehicle))
    → foldl (λ sum q. sum ⊕ (route_distance p.roads (depot p) q ⊕ fixed_cost_in_distance p.vehicle)) -0f (r ∷ routes) ≡ cost p (r ∷ routes)
unfolding cost foldl
cost_start p r routes h =
    let x = route_distance p.roads (depot p) r ⊕ fixed_cost_in_distance p.vehicle in
    let held = add-fits binary64 (route_distance p.roads (depot p) r) (fixed_cost_in_distance p.vehicle) in
    ap (λ (s : Float). foldl (λ sum q. sum ⊕ (route_distance p.roads (depot p) q ⊕ fixed_cost_in_distance p.vehicle)) s routes)
    (add_minus_zero_left x held ∙ sym (add_zero_left x h held))
