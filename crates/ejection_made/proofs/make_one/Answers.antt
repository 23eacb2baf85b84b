-- `make_one` meets its contract: what the check does not find alone.
use Rattle.ejection_made.proofs.MakeLaws.{made_laws}
use Rattle.ejection_made.proofs.make_one.Goals as goal

pub replace-x-requires-clause-has_position : goal.replace-x-requires-clause-has_position
replace-x-requires-clause-has_position g c = search made_laws

pub returns : goal.returns
returns g c = search made_laws
