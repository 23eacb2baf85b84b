-- `move_between` meets its contract: what the check does not find alone.
use Rattle.pair_move.proofs.PairLaws.{pair_first, pair_second}
use borrow.Author.Rules.{rules}
use Rattle.pair_move.proofs.move_between.Goals as goal

pub offset_bounds-routes-a : goal.offset_bounds-routes-a
offset_bounds-routes-a c = search (rules, pair_first, c.requires)

pub bounds-routes-a : goal.bounds-routes-a
bounds-routes-a c = search (pair_first, c.requires)

pub offset_bounds-routes-b : goal.offset_bounds-routes-b
offset_bounds-routes-b c = search (rules, pair_second, c.requires)

pub bounds-routes-b : goal.bounds-routes-b
bounds-routes-b c = search (pair_second, c.requires)
