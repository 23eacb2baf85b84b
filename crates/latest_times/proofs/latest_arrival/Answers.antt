-- `latest_arrival` meets its contract: what the check does not find alone.
use Rattle.quick_fit.specs.QuickTestArrivalLaws.{latest_is}
use Rattle.latest_times.proofs.latest_arrival.Goals as goal

pub returns : goal.returns
returns c = search latest_is
