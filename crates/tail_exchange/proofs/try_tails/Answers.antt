-- `try_tails` meets its contract: what the check does not find alone.
use Rattle.tail_exchange.proofs.TailLaws.{left_fits}
use Rattle.tail_exchange.proofs.try_tails.Goals as goal

pub both_joined-requires-clause-first : goal.both_joined-requires-clause-first
both_joined-requires-clause-first c = rw c.each.ensures c.requires.first

pub both_joined-requires-clause-second : goal.both_joined-requires-clause-second
both_joined-requires-clause-second c = rw c.each.ensures c.requires.second

pub both_joined-requires-clause-has_room : goal.both_joined-requires-clause-has_room
both_joined-requires-clause-has_room c = left_fits c.each.result c.args.routes.now _ c.each.ensures c.requires.has_room

pub both_joined-requires-clause-planned : goal.both_joined-requires-clause-planned
both_joined-requires-clause-planned c = rw c.each.ensures c.requires.planned
