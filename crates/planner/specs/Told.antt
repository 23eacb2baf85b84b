-- What a result of the code says, as the answer of a call, and the slices that a call is lent. Assumes nothing.
use Rattle.std.specs.Prelude.{ℕ, ◌≡◌, List, Result, Ok, Err}
use Rattle.minimization.specs.plan.Plan.{Slices}
use Rattle.minimization.specs.local_search.declared.rounds.Reduction.{Reduction}
use Rattle.entry.specs.refusal.declared.Refusal.{Refusal}
use Rattle.entry.specs.refusal.Number.{number}
use Rattle.entry.specs.declared.Work.{Work}
use Rattle.planner.specs.Calls.{Answer, refused, answered, Reply}

abbrev pub told : {A : Type 0} → Result A Refusal → Answer A
told (Ok a) = answered a
told (Err e) = refused (number e)

-- ---- the lent slices of a call

abbrev pub slices_of : List ℕ → List ℕ → Slices
slices_of lengths stops = record { lengths = lengths; stops = stops }

-- the numbers of u16 and f64 work cells
abbrev pub work_of : ℕ → ℕ → Work
work_of small wide = record { u16_cells = small; f64_cells = wide }

-- the answer, with both slices as the call leaves them
abbrev pub reply_of : Result Reduction Refusal → List ℕ → List ℕ → Reply
reply_of a lengths stops = record { answer = told a; slices = slices_of lengths stops }

-- "A refusal .. changes no buffer": of the cells that are lent to work in, before and after. "Work cells after an accepted call are free."
abbrev pub FreeIfAnswered : {A : Type 0} → Result Reduction Refusal → A → A → Type 0
FreeIfAnswered (Ok d) before after = Unit
FreeIfAnswered (Err e) before after = after ≡ before
