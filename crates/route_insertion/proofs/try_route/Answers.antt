-- `try_route` meets its contract: what the check does not find alone.
use Rattle.route_insertion.proofs.RouteLaws.{route_laws}
use Rattle.route_insertion.proofs.try_route.Goals as goal

pub returns-then-in_time : goal.returns-then-in_time
returns-then-in_time c = search route_laws

pub returns-then-not-room : goal.returns-then-not-room
returns-then-not-room c = search route_laws

pub returns-else-in_time : goal.returns-else-in_time
returns-else-in_time c = search route_laws
