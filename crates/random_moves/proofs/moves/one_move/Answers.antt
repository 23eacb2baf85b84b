-- `moves::one_move` meets its contract: what the check does not find alone.
use Rattle.random_moves.proofs.MoveLaws.{pair_drawn}
use Rattle.random_moves.proofs.moves.one_move.Goals as goal

pub move_between-requires-clause-pair : goal.move_between-requires-clause-pair
move_between-requires-clause-pair c = search (pair_drawn, c.requires)
