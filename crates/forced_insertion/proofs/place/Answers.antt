-- `place` meets its contract: what the check does not find alone.
use Rattle.cheapest_insertion.specs.local_search.Planned.{planned_stops}
use Rattle.forced_insertion.proofs.PoolLaws.{somewhere_inside}
use Rattle.forced_insertion.proofs.place.Goals as goal

pub cheapest-requires-clause-stops : goal.cheapest-requires-clause-stops
cheapest-requires-clause-stops c = rw c.each.ensures (planned_stops _ _ c.requires.planned)

pub put_in-requires-clause-has_position : goal.put_in-requires-clause-has_position
put_in-requires-clause-has_position c = somewhere_inside _ _ _ _ (rw c.each.ensures at c.cheapest.ensures) _ c.in-Some.is
