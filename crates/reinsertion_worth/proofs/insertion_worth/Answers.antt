-- `insertion_worth` meets its contract: what the check does not find alone.
use Rattle.reinsertion_worth.proofs.WorthLaws.{insertion_laws}
use Rattle.reinsertion_worth.proofs.insertion_worth.Goals as goal

pub returns-in-Some : goal.returns-in-Some
returns-in-Some c = search insertion_laws

pub returns-in-None : goal.returns-in-None
returns-in-None c = search insertion_laws
