-- `check::both_feasible` meets its contract: what the check does not find alone.
use Rattle.std.proofs.Common.{rules}
use Rattle.stop_exchange.proofs.ExchangeLaws.{route_stops}
use Rattle.stop_exchange.proofs.check.both_feasible.Goals as goal

pub within_capacity-requires : goal.within_capacity-requires
within_capacity-requires c = search (rules, route_stops _ c.args.routes c.args.a c.requires.first c.requires.planned c.route-one.ensures)

pub within_capacity-requires-then-within_capacity : goal.within_capacity-requires-then-within_capacity
within_capacity-requires-then-within_capacity c = search (rules, route_stops _ c.args.routes c.args.b c.requires.second c.requires.planned c.route-other.ensures)

pub checked-requires : goal.checked-requires
checked-requires c = route_stops _ c.args.routes _ c.requires.first c.requires.planned c.route-one.ensures

pub checked-requires-then-checked : goal.checked-requires-then-checked
checked-requires-then-checked c = route_stops _ c.args.routes _ c.requires.second c.requires.planned c.route-other.ensures
