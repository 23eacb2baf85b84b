-- `drive_all` meets its contract: what the check does not find alone.
use Rattle.route_drive.proofs.DriveLaws.{driving_on}
use Rattle.route_drive.proofs.drive_all.Goals as goal

pub loop-c-preserved : goal.loop-c-preserved
loop-c-preserved c = search (driving_on, c.in_ok-at.was, c.drive.ensures)
