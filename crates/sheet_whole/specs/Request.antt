-- The last three sections of a sheet, and what is asked of its problem. Assumes nothing.
use Rattle.std.specs.Prelude.{ℕ, List, take}
use Rattle.sheet_draws.specs.plan.Plan.{Slices}
use Rattle.sheet_draws.specs.sheet_text.Text.{Parser, ◌>>=◌, pure}
use Rattle.sheet_draws.specs.sheet_format.Form.{Run, draws, routes, slices_of, last_run}
use Rattle.sheet_routes.specs.Routes.{plan_in}
use Rattle.sheet_run.specs.Run.{run_of}
use Rattle.sheet_whole.specs.declared.parts.Request.{Request as RequestRead}

-- a plan, and the tape, M and K of its run
pub record Request : Type 0 where
  pub plan : Slices
  pub tape : List ℕ
  pub run : Run

abbrev pub request_of : List ℕ → Slices → Run → Request
request_of tape plan run = record { plan = plan; tape = tape; run = run }

-- `sections` of the form reads it behind the problem (`sections_by`, SheetLaws)
unfoldable pub request : Parser Request
request = do
  tape ← draws
  plan ← routes
  r ← last_run
  pure (request_of tape (slices_of plan) r)

-- the request that the slices hold, of what the code answers
abbrev pub held : List ℕ → List ℕ → List ℕ → RequestRead → Request
held lengths stops tape q = request_of (take q.draws tape) (plan_in lengths stops q.plan) (run_of q.run)
