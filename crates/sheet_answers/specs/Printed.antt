-- What a sheet prints ("The rest: bound and sheet"): "The sheet program reads standard input, runs minimise, then eliminate." Assumes nothing.
use Rattle.std.specs.Prelude.{ℕ, List, take}
use Rattle.planner.specs.models.Problem.{Problem}
use Rattle.planner.specs.plan.Plan.{Slices}
use Rattle.planner.specs.local_search.declared.rounds.Counts.{Counts}
use Rattle.planner.specs.local_search.declared.rounds.Reduction.{Reduction}
use Rattle.planner.specs.ejection_pool.Running.{allowance}
use Rattle.planner.specs.entry.declared.Work.{Work}
use Rattle.planner.specs.Calls.{Answer, refused as refused_with, answered, plan_in, public_minimise, public_eliminate}
use Rattle.sheet_laws.specs.sheet_text.Text.{Reading, refused, got}
use Rattle.sheet_laws.specs.sheet_format.Form.{Sheet, sheet, given}
use Rattle.sheet_laws.specs.listing.Listing.{listing, refusal_line}

-- the work cells that both calls are lent: the least that row 9 leaves
abbrev pub work : Work
work = record { u16_cells = 8192; f64_cells = 2048 }

-- "A refusal prints one line", an answer what f makes of it
abbrev pub unless_refused : Answer Reduction → (Reduction → List ℕ) → List ℕ
unless_refused (refused_with n) f = refusal_line n
unless_refused (answered d) f = f d

-- Eliminate, and the listing of what it leaves: "the first r lengths are the answer". The counts are those of the call before it.
unfoldable pub eliminated : Problem → Slices → Counts → ℕ → List ℕ
eliminated p s counts given =
    let e = public_eliminate p s work in
    unless_refused e.answer (λ d. listing p (take d.routes (plan_in e.slices)) counts given)

-- Minimise with the sheet's tape, M and K, then eliminate on both slices as minimise left them.
unfoldable pub planned : Sheet → List ℕ
planned x =
    let m = public_minimise x.problem x.plan (allowance x.run.limit x.run.clock x.tape) work in
    unless_refused m.answer (λ d. eliminated x.problem m.slices d.counts (given x))

-- a sheet of its parts
abbrev pub sheet_of : Problem → Slices → List ℕ → (limit clock : ℕ) → Sheet
sheet_of p plan tape limit clock = record { problem = p; plan = plan; tape = tape; run = record { limit = limit; clock = clock } }

-- what was read prints, or the number of the refusal
abbrev pub printed_of : Reading Sheet → List ℕ
printed_of (refused n) = refusal_line n
printed_of (got x at) = planned x

-- What a text prints: "A sheet is tested for 10, then read front to back to its first fault (11 or 12), then 1 to 9."
unfoldable pub printed : List ℕ → List ℕ
printed s = printed_of (sheet s 0)
