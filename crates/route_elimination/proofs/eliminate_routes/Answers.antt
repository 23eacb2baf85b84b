-- `eliminate_routes` meets its contract: what the check does not find alone.
use mathlib.Core.Path.{refl, sym, ◌∙◌}
use Rattle.elimination_round.specs.LocalSearchSearchLaws.{rounding_start, round_same, trying_start, at_end, after_accepted_less}
use Rattle.elimination_round.specs.elimination_moves.Eliminated.{attempt_reduces}
use Rattle.route_elimination.proofs.EliminateLaws.{after_gone, rounds_answer}
use Rattle.route_elimination.proofs.eliminate_routes.Goals as goal

pub search-init : goal.search-init
search-init c = (rounding_start _ _ _ _ _ c.requires.whole c.requires.routes_few c.requires.planned, refl)

pub loop-pick-init : goal.loop-pick-init
loop-pick-init c = (trying_start _ _ _ c.search.invariant.0 c.requires.few _ _ c.drop_empty-count.ensures.rest c.drop_empty-count.ensures.count c.requires.routes_few, refl)

pub returns-in-End : goal.returns-in-End
returns-in-End c = rounds_answer _ _ _ _ _ _
    (at_end _ _ _ c.loop-pick.invariant.0 _ _ _ c.next_attempt-next.ensures.round c.next_attempt-next.ensures.held (attempt_reduces _) _ _ (round_same _ _ _ c.search.invariant.0 c.requires.few _ _ c.drop_empty-count.ensures.rest c.drop_empty-count.ensures.count) (sym (c.drop_empty-count.auto.lengths ∙ c.search.invariant.0.long)) c.in-End.is)

pub search-smaller : goal.search-smaller
search-smaller c = after_accepted_less _ _ _ c.loop-pick.invariant.0 _ _ _ c.next_attempt-next.ensures.round c.next_attempt-next.ensures.held _ c.next_attempt-next.auto.lengths c.in-Accepted.is _ c.drop_empty-count.ensures.count

pub search-preserved : goal.search-preserved
search-preserved c = (
  after_gone _ c.loop-pick.invariant.0 _ _ _ c.next_attempt-next.ensures.round c.next_attempt-next.ensures.held _ c.next_attempt-next.auto.lengths c.in-Accepted.is _ _ (c.drop_empty-count.auto.lengths ∙ c.search.invariant.0.long) c.search.invariant.0.stops_long c.next_attempt-next.auto.stops (round_same _ _ _ c.search.invariant.0 c.requires.few _ _ c.drop_empty-count.ensures.rest c.drop_empty-count.ensures.count),
  c.next_attempt-next.auto.work ∙ c.loop-pick.invariant.1 ∙ c.search.invariant.1,
)
