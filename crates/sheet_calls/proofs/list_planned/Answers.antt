-- `list_planned` meets its contract: what the check does not find alone.
use mathlib.Core.Path.{◌∙◌}
use native.Mathlib.Omega.{arith}
use Rattle.sheet_elimination.specs.SheetAnswersListedLaws.{refusal_room, written_as, minimise_refuses, minimise_goes_on}
use Rattle.sheet_calls.proofs.list_planned.Goals as goal

pub put_refused-requires : goal.put_refused-requires
put_refused-requires c = refusal_room _ _ c.requires.in_bounds.0

pub list_eliminated-requires : goal.list_eliminated-requires
list_eliminated-requires c = record { in_bounds = (c.requires.in_bounds.0, omega (arith, c.requires.in_bounds.1, c.minimise-m.auto.lengths), omega (arith, c.requires.in_bounds.2, c.minimise-m.auto.stops), c.minimise-m.auto.work ∙ c.requires.in_bounds.3, c.minimise-m.auto.cells ∙ c.requires.in_bounds.4); short = c.requires.short }

pub returns-in-Err : goal.returns-in-Err
returns-in-Err c = written_as c.put_refused.ensures (minimise_refuses _ _ _ _ _ _ _ _ _ _ c.minimise-m.ensures.reply c.requires.in_bounds.3 c.requires.in_bounds.4 _ c.in-Err.is)

pub returns-in-Ok : goal.returns-in-Ok
returns-in-Ok c = written_as c.list_eliminated.ensures (minimise_goes_on _ _ _ _ _ _ _ _ _ _ c.minimise-m.ensures.reply c.requires.in_bounds.3 c.requires.in_bounds.4 _ c.in-Ok.is)
