-- What a sheet is refused with: "A sheet is tested for 10, then read front to back to its first fault (11 or 12), then 1 to 9." Assumes nothing.
use Rattle.std.specs.Prelude.{ℕ, ◌≡◌, List}
use Rattle.std.specs.Prelude.{Option, Some}
use Rattle.planner.specs.models.Problem.{Problem}
use Rattle.planner.specs.plan.Plan.{Plan}
use Rattle.planner.specs.local_search.declared.rounds.Counts.{Counts}
use Rattle.planner.specs.entry.Table.{refusal}
use Rattle.planner.specs.entry.Given.{minimise_inputs}
use Rattle.sheet_laws.specs.sheet_text.Text.{Reading, refused, got}
use Rattle.sheet_laws.specs.sheet_format.Form.{Sheet, sheet}
use Rattle.sheet_laws.specs.listing.Listing.{listing}
use Rattle.sheet_answers.specs.Printed.{work}

-- the number that reading came to, or the first row of the table that applies to what was read
abbrev pub refusal_of : Reading Sheet → Option ℕ
refusal_of (refused n) = Some n
refusal_of (got x at) = refusal (minimise_inputs x.problem x.plan x.tape x.run.limit work)

unfoldable pub sheet_refusal : List ℕ → Option ℕ
sheet_refusal s = refusal_of (sheet s 0)

-- a text that is the listing of a plan
pub record Listed (text : List ℕ) : Type 0 where
  pub problem : Problem
  pub plan : Plan
  pub counts : Counts
  pub given : ℕ
  pub lists : text ≡ listing problem plan counts given
