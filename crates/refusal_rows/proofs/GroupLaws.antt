-- What the rows in their groups rest on: lengths of slices. Assumes nothing.
use Prim.Native.Nat.{ℕ}
use mathlib.Core.Path.{◌≡◌, refl, sym, ◌∙◌}
use mathlib.Core.Bool.{true, false}
use mathlib.Core.List.{List, [], ◌∷◌}
use native.Mathlib.Omega.{arith}
use lib.ListN.{length}
use Rattle.place_checks.specs.models.Problem.{Problem}
use Rattle.place_checks.specs.models.Valid.{sizes_pass}
use Rattle.place_checks.specs.ModelsValidLaws.{sizes_demand, sizes_sized}
use Rattle.stop_checks.specs.entry.Table.{is_empty}

-- ---- where row 1 lets a problem pass, the slices of the places are as long as one another

module _ (p : Problem) (e : sizes_pass p ≡ true) where
  pub ready_demand : length p.places.ready ≡ length p.demand
  ready_demand = (sizes_sized p e).ready_cells ∙ sym (sizes_demand p e)

  pub due_demand : length p.places.due ≡ length p.demand
  due_demand = (sizes_sized p e).due_cells ∙ sym (sizes_demand p e)

  pub penalty_demand : length p.places.penalty ≡ length p.demand
  penalty_demand = (sizes_sized p e).penalty_cells ∙ sym (sizes_demand p e)

  pub flags_demand : length p.places.flags ≡ length p.demand
  flags_demand = (sizes_sized p e).flag_cells ∙ sym (sizes_demand p e)

  pub ready_flags : length p.places.ready ≡ length p.places.flags
  ready_flags = (sizes_sized p e).ready_cells ∙ sym (sizes_sized p e).flag_cells

  pub due_flags : length p.places.due ≡ length p.places.flags
  due_flags = (sizes_sized p e).due_cells ∙ sym (sizes_sized p e).flag_cells

-- ---- row 7

pub empty_tape : (tape : List ℕ) → length tape ≡ 0 → is_empty tape ≡ true
empty_tape [] e = refl
empty_tape (w ∷ ws) e = absurd (omega (arith, e))

pub some_tape : (tape : List ℕ) → (length tape ≡ 0 → ⊥) → is_empty tape ≡ false
some_tape [] e = absurd (e refl)
some_tape (w ∷ ws) e = refl
