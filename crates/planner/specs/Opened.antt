-- Every definition of the project, opened at once. Assumes nothing.
use Rattle.lateness_bound.specs.models.Valid.{sizes_pass, is_amount, values_pass, windows_pass, valid}
use Rattle.lateness_bound.specs.Bound.{later_window, dearer_penalty, latest_window, dearest_penalty, slowest, lateness_bound}
use Rattle.entry.specs.Table.{bad_lengths, stop_passes, stops_pass, too_few, table, first_applying, refusal}
use Rattle.planner.specs.Calls.{public_route_feasible, public_route_eval, public_effective_cost, public_schedule, public_route_distance, public_lateness_bound, public_gain_floor, reply, public_minimise, public_eliminate}
use Rattle.planner.specs.Run.{call, run, steps, draws, limits}
use Rattle.minimization.specs.Opened.{opened as minimizing}
use Rattle.elimination_moves.specs.Opened.{opened as eliminating}

-- Every definition, for a theorem that is computed: `unfolding opened`.
unfoldable pub opened : Unit {0}
unfolding sizes_pass is_amount values_pass windows_pass valid later_window dearer_penalty latest_window dearest_penalty slowest lateness_bound bad_lengths stop_passes stops_pass too_few table first_applying refusal public_route_feasible public_route_eval public_effective_cost public_schedule public_route_distance public_lateness_bound public_gain_floor reply public_minimise public_eliminate call run steps draws limits minimizing eliminating
opened = tt
