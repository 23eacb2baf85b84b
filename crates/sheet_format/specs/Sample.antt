-- The sample sheet of "The rest: bound and sheet", and what is read of it. Assumes nothing.
use Rattle.std.specs.Prelude.{ℕ, ◌≡◌, refl, List, [], ◌∷◌, pos, None}
use Rattle.models.specs.floats.Binary64.{0f}
use Rattle.models.specs.floats.Whole.{nat}
use Rattle.models.specs.Problem.{problem}
use Rattle.sheet_fields.specs.sheet_text.Text.{got, bytes}
use Rattle.sheet_format.specs.Form.{Sheet, sheet}
use Rattle.sheet_format.specs.Opened.{opened}

unfoldable pub sample : List ℕ
sample =
    bytes
    "vehicle 1\n10 0 0 1 - -\nplaces 3\n0 0 - - -\n4 0 - - -\n5 0 - - -\ndistances 3\n0 10 10\n10 0 5\n10 5 0\ntimes 0\nbreak 0\ndraws 1\n7\nroutes 2\n1 1\n1 2\nrun 1\n5 5\n"

pub sample_sheet : Sheet
sample_sheet =
    record {
      problem =
          problem
          3
          (pos 0 ∷ pos 4 ∷ pos 5 ∷ [])
          (nat 0 ∷ nat 0 ∷ nat 0 ∷ [])
          (0f ∷ 0f ∷ 0f ∷ [])
          (0f ∷ 0f ∷ 0f ∷ [])
          (0f ∷ 0f ∷ 0f ∷ [])
          (0 ∷ 0 ∷ 0 ∷ [])
          (nat 0 ∷ nat 10 ∷ nat 10 ∷ nat 10 ∷ nat 0 ∷ nat 5 ∷ nat 10 ∷ nat 5 ∷ nat 0 ∷ [])
          []
          (record {
            capacity = pos 10;
            depot_id = 0;
            fixed_cost = nat 0;
            cost_per_distance = nat 1;
            max_distance = None;
            max_duration = None;
            rest = None;
          });
      plan = record { lengths = 1 ∷ 1 ∷ []; stops = 1 ∷ 2 ∷ [] };
      tape = 7 ∷ [];
      run = record { limit = 5; clock = 5 };
    }

-- the sample reads as its problem, to its last byte
pub sample_reads : sheet sample 0 ≡ got sample_sheet 149
unfolding opened sample sample_sheet
sample_reads = refl
