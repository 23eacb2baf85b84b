-- What the answer of the reader of a sheet means, with what the slices hold after it. Assumes nothing.
use Rattle.std.specs.Prelude.{ℕ, ◌≤◌, List, take, Float, Result, Ok, Err}
use Rattle.sheet_draws.specs.sheet_text.refusal.declared.Refusal.{Refusal}
use Rattle.sheet_draws.specs.sheet_text.refusal.Number.{number}
use Rattle.sheet_draws.specs.sheet_text.Text.{Reading, refused, got, map_reading}
use Rattle.sheet_draws.specs.sheet_format.Form.{Sheet}
use Rattle.sheet_draws.specs.sheet_reader.Cells.{Columns}
use Rattle.sheet_problem.specs.Told.{problem_in}
use Rattle.sheet_routes.specs.Routes.{plan_in}
use Rattle.sheet_run.specs.Run.{run_of}
use Rattle.sheet_whole.specs.declared.parts.Sheet.{Sheet as SheetRead}

-- the sheet that the slices hold, of what the code answers
abbrev pub sheet_in : List ℕ → List ℕ → List ℕ → Columns → List Float → List Float → SheetRead → Sheet
sheet_in lengths stops tape c distances times x =
    record {
      problem = problem_in c distances times x.head;
      plan = plan_in lengths stops x.request.plan;
      tape = take x.request.draws tape;
      run = run_of x.request.run;
    }

-- a value and the position after it, or why it is refused
abbrev pub told_result : {A : Type 0} → Result (A × ℕ) Refusal → Reading A
told_result (Ok (a, i)) = got a i
told_result (Err r) = refused (number r)

abbrev pub told_sheet : List ℕ → List ℕ → List ℕ → Columns → List Float → List Float → Result (SheetRead × ℕ) Refusal → Reading Sheet
told_sheet lengths stops tape c distances times r = map_reading (sheet_in lengths stops tape c distances times) (told_result r)

-- where a sheet was read, what it holds fits its slices
abbrev pub SheetWithin : Result (SheetRead × ℕ) Refusal → Type 0
SheetWithin (Ok (x, i)) = (x.head.n ≤ 64) × (x.head.timed ≤ x.head.n) × (x.request.draws ≤ 1024) × (x.request.plan.given ≤ 64) × (x.request.plan.used ≤ 64)
SheetWithin (Err k) = Unit
