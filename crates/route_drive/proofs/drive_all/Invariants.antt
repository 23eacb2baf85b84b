-- What the loop of `drive_all` keeps.
use Rattle.route_drive.proofs.DriveLaws.{Driving}
use Rattle.route_drive.proofs.drive_all.Given as goal

abbrev pub invariant-loop-c : goal.invariant-loop-c
invariant-loop-c l = Driving l.net.places l.net.roads l.stops l.initial.at l.at l.c-index
