-- `look_over` meets its contract: what the check does not find alone.
use Rattle.std.proofs.Common.{rules}
use Rattle.reinsertion_candidates.specs.plan.Slices.{length_split}
use Rattle.reinsertion_candidates.specs.plan.Left.{left_start, left_all, left_more, left_end}
use Rattle.reinsertion_candidates.specs.Place.{look_over}
use Rattle.reinsertion.proofs.OverLaws.{all_few}
use Rattle.reinsertion.proofs.look_over.Goals as goal

pub loop-k-init : goal.loop-k-init
loop-k-init c = search (rules, length_split, left_start)

pub look_through-best-requires : goal.look_through-best-requires
look_through-best-requires c = (
  c.requires.asked,
  left_all _ _ _ _ c.loop-k.invariant.1 _ _ c.in-Some.ensures.steps.0 c.requires.room.routes,
  left_all _ _ _ _ c.loop-k.invariant.1 _ _ c.in-Some.ensures.steps.0 (all_few _ _ c.args.routes.lent.inside c.requires.room.few),
)

pub loop-k-preserved : goal.loop-k-preserved
loop-k-preserved c =
    let s = c.in-Some.ensures.steps in
    ((c.in-Some.ensures.goes.on tt).0, left_more _ _ _ _ c.loop-k.invariant.1 _ _ s.0 _ _ _ s.1 s.2 c.look_through-best.ensures)

pub returns : goal.returns
unfolding look_over
returns c = left_end _ _ _ _ c.loop-k.invariant.1 c.in-None.ensures.steps.0.0
