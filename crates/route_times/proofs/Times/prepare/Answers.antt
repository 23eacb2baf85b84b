-- `prepare` meets its contract: what the check does not find alone.
use Rattle.route_times.proofs.PrepareLaws.{prepared_made}
use Rattle.route_times.proofs.Times.prepare.Goals as goal

pub returns-then-fleet-clause-prepared : goal.returns-then-fleet-clause-prepared
returns-then-fleet-clause-prepared c = search prepared_made
