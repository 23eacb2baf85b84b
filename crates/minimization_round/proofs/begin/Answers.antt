-- `begin` meets its contract: what the check does not find alone.
use mathlib.Core.Path.{sym}
use lib.Seq.{length-take-le}
use Rattle.minimization.specs.local_search.Planned.{planned_stops}
use Rattle.minimization.specs.LocalSearchNextLaws.{count_within, begun_lent, begun_planned}
use Rattle.minimization_round.proofs.NextLaws.{begun_cost}
use Rattle.minimization_round.proofs.begin.Goals as goal

pub slice_bounds-routes-end : goal.slice_bounds-routes-end
slice_bounds-routes-end c = count_within _ _ _ c.drop_empty-count.ensures.rest c.drop_empty-count.ensures.count

pub slice_bounds-routes-end-2 : goal.slice_bounds-routes-end-2
slice_bounds-routes-end-2 c = sym (length-take-le _ _ (count_within _ _ _ c.drop_empty-count.ensures.rest c.drop_empty-count.ensures.count))

pub invariant_of-routes : goal.invariant_of-routes
invariant_of-routes c = record { lent = begun_lent _ _ _ c.drop_empty-count.ensures.rest c.drop_empty-count.ensures.count _ c.requires.lent }

pub plan_cost-before-requires-clause-stops : goal.plan_cost-before-requires-clause-stops
plan_cost-before-requires-clause-stops c =
    planned_stops _ _ (begun_planned _ _ _ c.drop_empty-count.ensures.rest c.drop_empty-count.ensures.count _ c.requires.lent _ c.requires.planned)

pub returns-clause-cost : goal.returns-clause-cost
returns-clause-cost c = begun_cost _ _ _ c.drop_empty-count.ensures.rest c.drop_empty-count.ensures.count _ _ _ c.plan_cost-before.ensures
