-- `may_fit` meets its contract: what the check does not find alone.
use Rattle.quick_fit.proofs.FitLaws.{fit_laws}
use Rattle.quick_fit.proofs.may_fit.Goals as goal

pub returns-in_default : goal.returns-in_default
returns-in_default c = search fit_laws

pub returns : goal.returns
returns c = search fit_laws
