-- `exchange_stops` meets its contract: what the check does not find alone.
use Rattle.std.proofs.Common.{rules, refl}
use Rattle.plan.proofs.PlanLaws.{place_laws}
use Rattle.exchanged_stops.proofs.ExchangeLaws.{exchange_stops_done}
use Rattle.exchanged_stops.proofs.exchange_stops.Goals as goal

pub begins-requires : goal.begins-requires
begins-requires c = search (rules, place_laws)

pub overflow_add-p : goal.overflow_add-p
overflow_add-p c = search (rules, place_laws)

pub begins-requires-2 : goal.begins-requires-2
begins-requires-2 c = search (rules, place_laws)

pub overflow_add-q : goal.overflow_add-q
overflow_add-q c = search (rules, place_laws)

pub swap-requires : goal.swap-requires
swap-requires c = search (rules, place_laws)

pub returns : goal.returns
returns c =
    record { routes = search exchange_stops_done; sum = refl; kept = record { same_lengths = refl; same_stops = refl; count = refl; room = search rules } }
