-- What a stored call asks that changes a plan, and whether its answer and the plan are the stored ones. Assumes nothing.
use Rattle.std.specs.Prelude.{ℕ, List, Bool, ◌&&◌, Option, Some, None}
use Rattle.called.specs.plan.Plan.{Slices}
use Rattle.called.specs.ejection_pool.declared.Allowance.{Allowance}
use Rattle.called.specs.planner.Told.{slices_of}
use Rattle.called.specs.planner.Calls.{Reply}
use Rattle.called.specs.declared.Change.{Change}
use Rattle.called.specs.declared.Change.TheVariants.{Minimise, Eliminate}
use Rattle.same_answers.specs.stored_answers.stored_values.declared.kinds.Kind.{Kind}
use Rattle.same_answers.specs.stored_answers.stored_values.declared.kinds.Kind.TheVariants as kind
use Rattle.same_answers.specs.stored_answers.declared.Stored.{Stored}
use Rattle.same_answers.specs.stored_answers.Answers.{reply_stored, same_stored, same_plan}

-- what a kind asks, with what a minimise may use; nothing where it is a question
abbrev pub asked_by : Kind → Allowance → Option Change
asked_by kind.Minimise given = Some (Minimise given)
asked_by kind.Eliminate given = Some Eliminate
asked_by _ given = None

-- a verdict, and both slices for the next call: "each later one gets both whole as the last call left them"
pub record Replayed : Type 0 where
  pub agrees : Bool
  pub slices : Slices

-- whether a reply is the stored answer with the stored plan
abbrev pub replayed : Reply → Stored → List ℕ → List ℕ → Replayed
replayed y answer lengths stops = record { agrees = same_stored (reply_stored y.answer) answer && same_plan y.slices lengths stops; slices = y.slices }

-- the code's verdict, with the slices as it leaves them
abbrev pub replayed_as : Bool → List ℕ → List ℕ → Replayed
replayed_as b lengths stops = record { agrees = b; slices = slices_of lengths stops }
