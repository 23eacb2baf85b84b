-- `schedule` meets its contract: what the check does not find alone.
use Rattle.std.proofs.Common.{rules}
use Rattle.break_clock.proofs.ScheduleLaws.{ride_ends}
use Rattle.break_schedule.proofs.schedule.Goals as goal

pub ride_home-requires-clause-prev_lt_n : goal.ride_home-requires-clause-prev_lt_n
ride_home-requires-clause-prev_lt_n c = (search (rules, ride_ends, c.in_ok-at.was, c.requires), c.requires.0)
