-- `take_largest` meets its contract: what the check does not find alone.
use Rattle.elimination_moves.proofs.LargestLaws.{taken_laws}
use Rattle.elimination_moves.proofs.take_largest.Goals as goal

pub offset_bounds-left-i : goal.offset_bounds-left-i
offset_bounds-left-i c = search taken_laws

pub bounds-left-i : goal.bounds-left-i
bounds-left-i c = search taken_laws

pub cut-requires : goal.cut-requires
cut-requires c = search taken_laws

pub returns-clause-rest : goal.returns-clause-rest
returns-clause-rest c = search taken_laws
