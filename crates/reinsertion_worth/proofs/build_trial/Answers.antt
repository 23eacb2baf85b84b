-- `build_trial` meets its contract: what the check does not find alone.
use Rattle.reinsertion_worth.proofs.WorthLaws.{trial_built}
use Rattle.reinsertion_worth.proofs.build_trial.Goals as goal

pub returns : goal.returns
returns c = trial_built _ _ _ _ _ c.requires.0 c.requires.1 c.copy_cells.ensures c.insert_at.ensures
