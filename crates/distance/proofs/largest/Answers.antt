-- `largest` meets its contract: what the check does not find alone.
use native.Mathlib.Nat.{le_refl}
use Rattle.distance.proofs.MatrixLaws.{seen_none, seen_more, seen_all}
use Rattle.distance.proofs.largest.Goals as goal

pub loop-at-init : goal.loop-at-init
loop-at-init c = seen_none _

pub loop-at-preserved : goal.loop-at-preserved
loop-at-preserved c = seen_more _ _ _ _ c.in-Some.ensures.2 c.in-Some.ensures.1 c.in-Some.ensures.3

pub returns : goal.returns
returns c = seen_all _ _ _ c.in_default.ensures (le_refl _)
