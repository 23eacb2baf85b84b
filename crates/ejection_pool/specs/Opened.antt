-- The definitions of the ejection pool and those below, opened at once. Assumes nothing.
use Rattle.ejection_made.specs.quick_test.Quick.{served_at, departures_from, latest_arrival, latest_arrivals, may_fit, times}
use Rattle.ejection_made.specs.insertion.Cheapest.{may_go_in, try_position, try_positions, try_route, cheapest}
use Rattle.ejection_made.specs.ejection.Eject.{kept, ejected, failure_sum, try_in_kept, try_kept, try_left, try_out, try_one, try_two_from, try_two, eject_one, eject_two, eject, make_room}
use Rattle.random_moves.specs.perturbation.Opened.{opened as moves}
use Rattle.ejection_pool.specs.Pool.{after_eject, after_cheapest, turn, turned, at_limit, run_pool, empty_into}

-- Every definition, for a theorem that is computed: `unfolding opened`.
unfoldable pub opened : Unit {0}
unfolding served_at departures_from latest_arrival latest_arrivals may_fit times may_go_in try_position try_positions try_route cheapest kept ejected failure_sum try_in_kept try_kept try_left try_out try_one try_two_from try_two eject_one eject_two eject make_room after_eject after_cheapest turn turned at_limit run_pool empty_into moves
opened = tt
