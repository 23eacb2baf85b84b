-- `try_exchange` meets its contract: what the check does not find alone.
use Rattle.stop_exchange.proofs.ExchangeLaws.{left_there, exchanged_first_in, exchanged_second_in, exchanged_planned, exchanged_first, exchanged_second}
use Rattle.stop_exchange.proofs.try_exchange.Goals as goal

pub both_feasible-requires-clause-first : goal.both_feasible-requires-clause-first
both_feasible-requires-clause-first c = left_there c.each.result c.exchange_stops.new.routes _ c.each.ensures (search (exchanged_first_in, c.requires, c.exchange_stops))

pub both_feasible-requires-clause-second : goal.both_feasible-requires-clause-second
both_feasible-requires-clause-second c = left_there c.each.result c.exchange_stops.new.routes _ c.each.ensures (search (exchanged_second_in, c.requires, c.exchange_stops))

pub both_feasible-requires-clause-planned : goal.both_feasible-requires-clause-planned
both_feasible-requires-clause-planned c = rw c.each.ensures (search (exchanged_planned, c.requires, c.exchange_stops))

pub exchange_stops-requires-then-not-both_feasible-clause-first : goal.exchange_stops-requires-then-not-both_feasible-clause-first
exchange_stops-requires-then-not-both_feasible-clause-first c = search (exchanged_first, c.requires, c.exchange_stops)

pub exchange_stops-requires-then-not-both_feasible-clause-second : goal.exchange_stops-requires-then-not-both_feasible-clause-second
exchange_stops-requires-then-not-both_feasible-clause-second c = search (exchanged_second, c.requires, c.exchange_stops)
