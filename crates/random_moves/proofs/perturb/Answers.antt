-- `perturb` meets its contract: what the check does not find alone.
use native.Mathlib.Omega.{arith}
use Rattle.random_moves.proofs.PerturbLaws.{perturbing_start, perturbing_more, perturbing_plan, perturbing_draws}
use Rattle.random_moves.proofs.perturb.Goals as goal

pub loop-init : goal.loop-init
loop-init c = perturbing_start _ _ _ _ _ c.requires.planned c.requires.has_room c.requires.countable c.if-routes-lt2.false

pub loop-preserved : goal.loop-preserved
loop-preserved c =
    perturbing_more _ _ _ _ _ _ _ _ c.loop.invariant _ _ _ (omega (arith, c.loop-test.true)) c.one_move.ensures.plan c.one_move.ensures.tape c.one_move.ensures.draws c.one_move.auto.work

pub returns-clause-plan : goal.returns-clause-plan
returns-clause-plan c = perturbing_plan _ _ _ _ _ _ _ _ c.loop.invariant (omega (arith, c.loop-test.false))

pub returns-clause-draws : goal.returns-clause-draws
returns-clause-draws c = perturbing_draws _ _ _ _ _ _ _ _ c.loop.invariant (omega (arith, c.loop-test.false))
