-- `ride_all` meets its contract: what the check does not find alone.
use Rattle.break_clock.proofs.ScheduleLaws.{along_on}
use Rattle.break_schedule.proofs.ride_all.Goals as goal

pub loop-c-preserved : goal.loop-c-preserved
loop-c-preserved c = search (along_on, c.in_ok-at.was, c.ride.ensures)
