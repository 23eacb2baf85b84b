-- `replace` meets its contract: what the check does not find alone.
use Rattle.ejection_made.proofs.MakeLaws.{out_laws}
use Rattle.ejection_made.proofs.replace.Goals as goal

pub put_in-requires-clause-has_room : goal.put_in-requires-clause-has_room
put_in-requires-clause-has_room c = search out_laws

pub returns-clause-plan : goal.returns-clause-plan
returns-clause-plan c = search out_laws
