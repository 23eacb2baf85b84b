-- `trial_ridden` meets its contract: what the check does not find alone.
use Rattle.std.proofs.Common.{arith, rules}
use Rattle.route_checks.specs.BreakClockStopLaws.{one_stop}
use Rattle.route_checks.specs.BreakClockScheduleLaws.{front_there, front_room, one_there, stop_index, trial_front, trial_stop, trial_tail}
use Rattle.trial_route.proofs.TrialLaws.{cut_laws}
use Rattle.trial_route.proofs.trial_ridden.Goals as goal

pub returns-in_err-before : goal.returns-in_err-before
returns-in_err-before c = search (rules, trial_front, rw (c.split_at.ensures.front, c.new.ensures) at c.ride_all.ensures)

pub ride_all-requires-2 : goal.ride_all-requires-2
ride_all-requires-2 c =
    let x = rw (c.split_at.ensures.front, c.new.ensures) at c.ride_all.ensures in
    (search (front_there, c.requires, c.in_ok-before.was, x), search (one_stop, c.requires), search (front_room, c.requires, c.in_ok-before.was, x))

pub returns-in_err-after : goal.returns-in_err-after
returns-in_err-after c = search (rules, trial_stop, rw (c.split_at.ensures.front, c.new.ensures) at c.ride_all.ensures)

pub ride_all-requires-3 : goal.ride_all-requires-3
ride_all-requires-3 c =
    let x = rw (c.split_at.ensures.front, c.new.ensures) at c.ride_all.ensures in
    (search (one_there, c.requires, c.in_ok-after.was, c.ride_all-2.ensures), search cut_laws, omega (arith, stop_index _ _ _ _ _ _ _ _ c.requires.2 x c.in_ok-before.was _ _ _ c.ride_all-2.ensures c.in_ok-after.was, c.split_at.ensures.back_len, c.requires.3.few))

pub returns : goal.returns
returns c = search (trial_tail, c.in_ok-before.was, c.in_ok-after.was, rw (c.split_at.ensures.front, c.new.ensures) at c.ride_all.ensures, c.ride_all-2.ensures, rw c.split_at.ensures.back at c.ride_all-3.ensures)
