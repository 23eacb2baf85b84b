-- `try_without` meets its contract: what the check does not find alone.
use Rattle.elimination_attempt.proofs.AttemptLaws.{tried_gained, tried_refused, left_accepted}
use Rattle.elimination_attempt.proofs.try_without.Goals as goal

pub returns-then-gained-clause-plan : goal.returns-then-gained-clause-plan
returns-then-gained-clause-plan c = tried_gained _ _ _ c.empty_route-gained.ensures.plan c.if-gained.true

pub returns-then-gained-clause-slices : goal.returns-then-gained-clause-slices
returns-then-gained-clause-slices c = left_accepted _ _ _ c.empty_route-gained.ensures.accepted c.if-gained.true

pub returns-clause-plan : goal.returns-clause-plan
returns-clause-plan c = tried_refused _ _ _ c.empty_route-gained.ensures.plan c.if-gained.false _
