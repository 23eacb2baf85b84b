-- `larger_at` meets its contract: what the check does not find alone.
use Rattle.elimination_moves.proofs.LargestLaws.{larger_laws}
use Rattle.elimination_moves.proofs.larger_at.Goals as goal

pub returns-then-larger : goal.returns-then-larger
returns-then-larger c = search larger_laws

pub returns : goal.returns
returns c = search larger_laws
