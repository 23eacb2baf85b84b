-- What the loop of `ride_all` keeps.
use Rattle.break_clock.proofs.ScheduleLaws.{RidingAlong}
use Rattle.break_schedule.proofs.ride_all.Given as goal

abbrev pub invariant-loop-c : goal.invariant-loop-c
invariant-loop-c l = RidingAlong l.net.places l.net.roads l.rest l.stops l.initial.at l.at l.c-index
