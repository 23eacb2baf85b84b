-- `trial_reached` meets its contract: what the check does not find alone.
use Rattle.std.proofs.Common.{rules}
use Rattle.route_checks.specs.EvaluationCheckLaws.{front_there, reach_there, trial_front, trial_stop, trial_tail}
use Rattle.trial_route.proofs.TrialLaws.{cut_laws}
use Rattle.trial_route.proofs.trial_reached.Goals as goal

pub returns-in_err-before : goal.returns-in_err-before
returns-in_err-before c = search (rules, trial_front, rw (c.split_at.ensures.front, c.new.ensures) at c.reach_all.ensures)

pub reach-requires : goal.reach-requires
reach-requires c = (search (front_there, c.requires, c.in_ok-before.was, rw (c.split_at.ensures.front, c.new.ensures) at c.reach_all.ensures), c.requires.1)

pub returns-in_err-after : goal.returns-in_err-after
returns-in_err-after c = search (rules, trial_stop, rw (c.split_at.ensures.front, c.new.ensures) at c.reach_all.ensures)

pub reach_all-requires-2 : goal.reach_all-requires-2
reach_all-requires-2 c = (search (reach_there, c.requires, c.in_ok-after.was, c.reach.ensures), search cut_laws)

pub returns : goal.returns
returns c = search (trial_tail, c.in_ok-before.was, c.in_ok-after.was, rw (c.split_at.ensures.front, c.new.ensures) at c.reach_all.ensures, c.reach.ensures, rw c.split_at.ensures.back at c.reach_all-2.ensures)
