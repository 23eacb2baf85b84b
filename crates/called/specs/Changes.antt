-- A call that changes a plan, as the code is given it. Assumes nothing.
use Rattle.std.specs.Prelude.{ℕ, List, Option, Some, None}
use Rattle.std.specs.Borrow.{Bor}
use Rattle.minimise_call.specs.ejection_pool.Running.{allowed}
use Rattle.minimise_call.specs.entry.declared.Work.{Work}
use Rattle.minimise_call.specs.planner.Run.{Call, minimise, eliminate}
use Rattle.call_words.specs.declared.Words.{Words}
use Rattle.call_words.specs.declared.Kind.{Kind}
use Rattle.call_words.specs.declared.Kind.TheVariants as kind
use Rattle.called.specs.declared.Change.{Change}
use Rattle.called.specs.declared.Change.TheVariants.{Minimise, Eliminate}

-- with its work cells, one of a list of calls
abbrev pub change_of : Change → Work → Call
change_of (Minimise given) w = minimise (allowed given) w
change_of Eliminate w = eliminate w

-- what the words of a call of a kind ask for, with its tape: anything but minimise is eliminate
abbrev pub change_asked : Option Kind → Words → Bor (List ℕ) → Change
change_asked None w tape = Eliminate
change_asked (Some kind.Eliminate) w tape = Eliminate
change_asked (Some kind.Minimise) w tape = Minimise (record { tape = tape; limit = w.limit; clock = w.clock })
