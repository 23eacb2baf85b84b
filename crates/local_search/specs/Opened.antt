-- The definitions that both searches are computed with, opened at once. Assumes nothing.
use Rattle.std.specs.Float.Ieee.{of_bits, to_bits, of_int, add, sub, mul, div, lt, le, eq, is_nan}
use Rattle.route_order.specs.laws.Edits.{insert_at, erase, cut}
use Rattle.route_order.specs.laws.Loops.{loop, foldl}
use Rattle.route_order.specs.laws.Sorts.{range, least_at, smallest, sort_by}
use Rattle.route_order.specs.laws.Keeps.{keep}
use Rattle.route_order.specs.laws.Searches.{any, every}
use Rattle.route_order.specs.laws.Walks.{walk}
use Rattle.route_load.specs.floats.Binary64.{is_finite, max, min, abs, is_sign_negative, total_rank, total_less}
use Rattle.route_load.specs.distance.Matrix.{largest}
use Rattle.route_load.specs.labels.Labels.{serve_at, serve}
use Rattle.route_load.specs.break_clock.Schedule.{push, finish, ride, ride_home, schedule}
use Rattle.route_load.specs.evaluation.Eval.{drive, home, route_eval, effective_cost}
use Rattle.route_load.specs.evaluation.Check.{has_time_windows, has_soft_windows, departure, reach, home_allowed, route_feasible}
use Rattle.route_order.specs.plan.Plan.{split, flat, total, padded, put_in, take_out, exchange_stops, exchange_tails, non_empty}
use Rattle.local_search.specs.Options.{bind, then_some, or_else}
use Rattle.route_load.specs.route_cost.Route.{legs, route_distance, insertion_cost, cost}
use Rattle.route_load.specs.Feasible.{load, has_room, feasible}
use Rattle.local_search.specs.Rounds.{or_next, try_each, or_end, rounds, reduce}

-- Every definition, for a theorem that is computed: `unfolding opened`.
unfoldable pub opened : Unit {0}
unfolding of_bits to_bits of_int add sub mul div lt le eq is_nan insert_at erase cut loop foldl range least_at smallest sort_by keep every walk is_finite max min abs is_sign_negative total_rank total_less largest serve_at serve push finish ride ride_home schedule drive home route_eval effective_cost has_time_windows has_soft_windows departure reach home_allowed route_feasible split flat total padded put_in take_out exchange_stops exchange_tails non_empty bind then_some or_else legs route_distance insertion_cost cost load has_room feasible or_next try_each or_end rounds reduce
opened = tt
