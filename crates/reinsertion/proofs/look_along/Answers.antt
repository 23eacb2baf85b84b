-- `look_along` meets its contract: what the check does not find alone.
use native.Mathlib.Omega.{arith}
use Rattle.reinsertion_candidates.specs.laws.Loops.{loop_end}
use Rattle.reinsertion.proofs.PlaceLaws.{looking_start, looking_more}
use Rattle.reinsertion.proofs.look_along.Goals as goal

pub loop-pos-init : goal.loop-pos-init
loop-pos-init c = search looking_start

pub loop-pos-preserved : goal.loop-pos-preserved
loop-pos-preserved c = looking_more _ _ _ _ _ _ _ _ c.loop-pos.invariant _ (omega arith) c.look_at-found.ensures

pub returns-2 : goal.returns-2
returns-2 c =
    loop_end _ _ _ _ _ (looking_more _ _ _ _ _ _ _ _ c.loop-pos.invariant _ (omega arith) c.look_at-found.ensures).same (omega (arith, c.loop-pos-test.true, c.loop-pos.auto.pos-end))
