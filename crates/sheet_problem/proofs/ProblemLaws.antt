-- The sections of the problem, one after the other. Assumes nothing.
use Rattle.std.specs.Prelude.{Option}
use Prim.Native.Nat.{ℕ, ◌*◌, ◌≤◌}
use mathlib.Core.Path.{◌≡◌, ap, sym, ◌∙◌, subst}
use mathlib.Core.List.{List}
use native.Mathlib.Nat.{mul-le-mul}
use native.Mathlib.Omega.{arith}
use lib.ListN.{length, take, length-map, length-take}
use lib.Ieee.{Float}
use Rattle.sheet_vehicle.specs.models.declared.vehicle.Vehicle.{Vehicle}
use Rattle.sheet_vehicle.specs.models.Customer.{customers}
use Rattle.sheet_vehicle.specs.models.Problem.{Problem, DistanceMatrix, matrix}
use Rattle.sheet_vehicle.specs.sheet_text.declared.Text.{Text}
use Rattle.sheet_vehicle.specs.sheet_text.Text.{Reading, refused, got}
use Rattle.sheet_vehicle.specs.sheet_text.Told.{Reads, seen}
use Rattle.sheet_vehicle.specs.SheetTextReadLaws.{then, stop, done, got_of, refused_of}
use Rattle.sheet_vehicle.specs.sheet_format.declared.places.Place.{Place}
use Rattle.sheet_vehicle.specs.models.declared.vehicle.VehicleBreak.{VehicleBreak}
use Rattle.sheet_vehicle.specs.sheet_format.Form.{vehicle, places, roads, break, with_rest, problem_of, whole_problem}
use Rattle.sheet_roads.specs.sheet_reader.Cells.{Columns, columns, first_cells}
use Rattle.sheet_problem.specs.Told.{problem_in}

pub square_fits : (n m : ℕ) → n ≤ 64 → 4096 ≤ m → n * n ≤ m
square_fits n m h l = omega (arith, mul-le-mul h h, l)

-- as many places as cells are filled
places_number : (n : ℕ) (c : Columns) (ps : List Place) → n ≤ length c.demand → first_cells n c ≡ columns ps → length ps ≡ n
unfolding first_cells columns
places_number n c ps h e =
    sym (length-map ps (λ p. p.demand)) ∙ ap length (sym (ap (λ (x : Columns). x.demand) e)) ∙ length-take n c.demand ∙ omega (arith, h)

-- the problem of six slices
abbrev held : Columns → DistanceMatrix → Vehicle → Problem
held x m v = record { demand = x.demand; places = customers x.service x.ready x.due x.penalty x.flags; roads = m; vehicle = v }

-- what the slices hold is the problem of what was read
problem_held : (c : Columns) (d t : List Float) (n m : ℕ) (ps : List Place) (v : Vehicle) (rest : Option VehicleBreak) → first_cells n c ≡ columns ps
    → problem_in c d t (record { n = n; timed = m; vehicle = with_rest v rest }) ≡ problem_of v ps (matrix n (take (n * n) d) (take (m * m) t)) rest
unfolding problem_of first_cells columns
problem_held c d t n m ps v rest e = ap (λ (x : Columns). held x (matrix n (take (n * n) d) (take (m * m) t)) (with_rest v rest)) e

module _ {t : Text} where
  pub no_vehicle : {u : Text} {k : ℕ} → Reads vehicle t (λ at. refused k) u → Reads whole_problem t (λ at. refused k) u
  unfolding whole_problem
  no_vehicle e = stop _ e

  module _ {v : Vehicle} {u : Text} (ev : Reads vehicle t (got v) u) where
    pub no_places : {w : Text} {k : ℕ} → Reads (seen columns places) u (λ at. refused k) w → Reads whole_problem t (λ at. refused k) w
    unfolding whole_problem
    no_places e = then _ ev (stop _ (refused_of columns e))

    module _ (c : Columns) (n : ℕ) {w : Text} (room : n ≤ length c.demand) (ep : Reads (seen columns places) u (got (first_cells n c)) w) where
      -- the roads of as many places as were read
      roads_read : {said : ℕ → Reading DistanceMatrix} {x : Text} → Reads (roads n) w said x → Reads (roads (length (got_of columns ep).0)) w said x
      roads_read {said} {x} e =
          let p = got_of columns ep in
          subst (λ (a : ℕ). Reads (roads a) w said x) (sym (places_number n c p.0 room p.2)) e

      pub no_roads : {x : Text} {k : ℕ} → Reads (roads n) w (λ at. refused k) x → Reads whole_problem t (λ at. refused k) x
      unfolding whole_problem
      no_roads e = then _ ev (then _ (got_of columns ep).1 (stop _ (roads_read e)))

      module _ {m : DistanceMatrix} {x : Text} (em : Reads (roads n) w (got m) x) where
        pub no_break : {y : Text} {k : ℕ} → Reads break x (λ at. refused k) y → Reads whole_problem t (λ at. refused k) y
        unfolding whole_problem
        no_break e = then _ ev (then _ (got_of columns ep).1 (then _ (roads_read em) (stop _ e)))

        whole_read : {b : Option VehicleBreak} {y : Text} → Reads break x (got b) y → Reads whole_problem t (got (problem_of v (got_of columns ep).0 m b)) y
        unfolding whole_problem
        whole_read e = then _ ev (then _ (got_of columns ep).1 (then _ (roads_read em) (then _ e (done _ _))))

      pub problem_got : (d r : List Float) (m : ℕ) {x y : Text} {b : Option VehicleBreak} {z : Vehicle}
          → Reads (roads n) w (got (matrix n (take (n * n) d) (take (m * m) r))) x → Reads break x (got b) y → z ≡ with_rest v b
          → Reads whole_problem t (got (problem_in c d r (record { n = n; timed = m; vehicle = z }))) y
      problem_got d r m {x} {y} {b} {z} em eb ez =
          subst (λ (q : Problem). Reads whole_problem t (got q) y)
          (sym (ap (λ (a : Vehicle). problem_in c d r (record { n = n; timed = m; vehicle = a })) ez ∙ problem_held c d r n m (got_of columns ep).0 v b (got_of columns ep).2))
          (whole_read em eb)
