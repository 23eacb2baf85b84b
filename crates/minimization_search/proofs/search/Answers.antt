-- `search` meets its contract: what the check does not find alone.
use mathlib.Core.Path.{◌≡◌, sym, ◌∙◌}
use Rattle.std.proofs.Common.{rules}
use Rattle.minimization_round.specs.local_search.Search.{uncounted}
use Rattle.minimization_round.specs.LocalSearchSearchLaws.{rounding_start, round_same, trying_start, at_end, after_accepted_less, after_accepted}
use Rattle.minimization_round.specs.minimization.Attempted.{attempt_reduces}
use Rattle.minimization_round.proofs.NextLaws.{round_cost}
use Rattle.minimization_search.proofs.SearchLaws.{trying_countable}
use Rattle.minimization_search.proofs.search.Goals as goal

pub search-init : goal.search-init
search-init c =
    let none_yet : c.default-counts.result ≡ uncounted = search rules in
    rw none_yet (rounding_start _ _ _ _ _ c.requires.whole c.requires.routes_few c.requires.planned)

pub loop-pick-init : goal.loop-pick-init
loop-pick-init c = (
  trying_start _ _ _ c.search.invariant c.requires.few _ _ c.begin-round.ensures.rest c.begin-round.ensures.count c.requires.routes_few,
  round_cost _ _ _ c.begin-round.ensures.rest c.begin-round.ensures.count _ _ _ c.begin-round.ensures.cost,
)

pub next_attempt-next-requires-clause-countable : goal.next_attempt-next-requires-clause-countable
next_attempt-next-requires-clause-countable c = trying_countable _ _ c.loop-pick.invariant.0 c.requires.limited

pub returns-in-End : goal.returns-in-End
returns-in-End c = at_end _ _ _ c.loop-pick.invariant.0 _ _ _ c.next_attempt-next.ensures.round c.next_attempt-next.ensures.held (attempt_reduces _ _) _ _ (round_same _ _ _ c.search.invariant c.requires.few _ _ c.begin-round.ensures.rest c.begin-round.ensures.count) (sym (c.begin-round.auto.lengths ∙ c.search.invariant.long)) c.in-End.is

pub search-smaller : goal.search-smaller
search-smaller c = after_accepted_less _ _ _ c.loop-pick.invariant.0 _ _ _ c.next_attempt-next.ensures.round c.next_attempt-next.ensures.held _ c.next_attempt-next.auto.lengths c.in-Accepted.is _ c.begin-round.ensures.count

pub search-preserved : goal.search-preserved
search-preserved c =
    after_accepted _ _ _ c.loop-pick.invariant.0 _ _ _ c.next_attempt-next.ensures.round c.next_attempt-next.ensures.held _ c.next_attempt-next.auto.lengths c.in-Accepted.is (attempt_reduces _ _) _ _ (c.begin-round.auto.lengths ∙ c.search.invariant.long) c.search.invariant.stops_long c.next_attempt-next.auto.stops (round_same _ _ _ c.search.invariant c.requires.few _ _ c.begin-round.ensures.rest c.begin-round.ensures.count)
