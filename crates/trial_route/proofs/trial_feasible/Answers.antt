-- `trial_feasible` meets its contract: what the check does not find alone.
use Rattle.route_checks.specs.EvaluationCheckLaws.{trial_there, trial_feasible_laws}
use Rattle.route_checks.specs.BreakClockScheduleLaws.{trial_there as ride_there}
use Rattle.trial_route.proofs.trial_feasible.Goals as goal

pub returns-in_default-trial_reached : goal.returns-in_default-trial_reached
returns-in_default-trial_reached c = search trial_feasible_laws

pub home_allowed-requires-clause-prev_lt_n : goal.home_allowed-requires-clause-prev_lt_n
home_allowed-requires-clause-prev_lt_n c = (search (trial_there, c.requires, c.trial_reached), c.requires.0)

pub returns-in_default : goal.returns-in_default
returns-in_default c = search trial_feasible_laws

pub returns-in_default-trial_ridden : goal.returns-in_default-trial_ridden
returns-in_default-trial_ridden c = search trial_feasible_laws

pub ride_home-e-requires-clause-prev_lt_n : goal.ride_home-e-requires-clause-prev_lt_n
ride_home-e-requires-clause-prev_lt_n c = (search (ride_there, c.requires, c.trial_ridden), c.requires.0)

pub returns : goal.returns
returns c = search trial_feasible_laws
