-- The definitions of the moves and those below, opened at once. Assumes nothing.
use Rattle.perturbation.specs.Perturb.{word, draw, draw_bool, try_exchange, try_tails, try_move, move_between, other_than, move, perturb}
use Rattle.perturbation.specs.Parts.{joined, joined_stands, drawn_exchange, drawn_tails}
use Rattle.ejection_search.specs.local_search.Opened.{opened as shared}

-- Every definition, for a theorem that is computed: `unfolding opened`.
unfoldable pub opened : Unit {0}
unfolding word draw draw_bool try_exchange try_tails try_move move_between other_than move perturb joined joined_stands drawn_exchange drawn_tails shared
opened = tt
