-- `trial_cost` meets its contract: what the check does not find alone.
use Rattle.reinsertion_worth.proofs.WorthLaws.{trial_part}
use Rattle.reinsertion_worth.proofs.trial_cost.Goals as goal

pub effective_cost-requires : goal.effective_cost-requires
effective_cost-requires c = (c.args.fleet.now.depot_in, search (trial_part, c.requires, c.build_trial.ensures))
