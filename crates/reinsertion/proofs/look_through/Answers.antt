-- `look_through` meets its contract: what the check does not find alone.
use Rattle.reinsertion.proofs.PlaceLaws.{through_laws}
use Rattle.reinsertion.proofs.look_through.Goals as goal

pub returns-then-room : goal.returns-then-room
returns-then-room c = search through_laws

pub returns : goal.returns
returns c = search through_laws
