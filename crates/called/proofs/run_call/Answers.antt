-- `run_call` meets its contract: what the check does not find alone.
use mathlib.Core.Path.{refl}
use Rattle.called.proofs.CalledLaws.{called_so}
use Rattle.called.proofs.run_call.Goals as goal

pub returns : goal.returns
returns c = called_so _ _ _ _ _ _ _ c.requires _ _ c.change_asked-change.ensures refl c.changed.ensures
