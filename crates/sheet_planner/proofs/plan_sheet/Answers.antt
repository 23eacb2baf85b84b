-- `plan_sheet` meets its contract: what the check does not find alone.
use Rattle.sheet_planner.proofs.OutputLaws.{no_room, has_room}
use Rattle.sheet_planner.proofs.plan_sheet.Goals as goal

pub returns-then-out-lt6000 : goal.returns-then-out-lt6000
returns-then-out-lt6000 c = search no_room

pub returns : goal.returns
returns c = search has_room
