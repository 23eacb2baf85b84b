-- The definitions of route elimination and those below, opened at once. Assumes nothing.
use mathlib.Core.List.{flat_map}
use Rattle.reinsertion_candidates.specs.reinsertion_worth.Worth.{worth, insertion_worth}
use Rattle.reinsertion_candidates.specs.Candidates.{positions, candidates_in, candidates, first_passing}
use Rattle.elimination_moves.specs.Eliminate.{move_to, move_stop, moving, move_all, if_gained, without_route, attempt, eliminate_routes}
use Rattle.reinsertion_candidates.specs.local_search.Opened.{opened as shared}

-- Every definition, for a theorem that is computed: `unfolding opened`.
unfoldable pub opened : Unit {0}
unfolding flat_map worth insertion_worth positions candidates_in candidates first_passing move_to move_stop moving move_all if_gained without_route attempt eliminate_routes shared
opened = tt
