-- `without_route` meets its contract: what the check does not find alone.
use Rattle.route_saving.proofs.SavedLaws.{route_there, route_stops}
use Rattle.elimination_attempt.proofs.AttemptLaws.{without_endless, without_tried}
use Rattle.elimination_attempt.proofs.without_route.Goals as goal

pub saved_by-saved-requires-clause-there : goal.saved_by-saved-requires-clause-there
saved_by-saved-requires-clause-there c = route_there _ c.args.routes.now _ c.requires.attempted c.each.result c.each.ensures

pub saved_by-saved-requires-clause-stops : goal.saved_by-saved-requires-clause-stops
saved_by-saved-requires-clause-stops c = route_stops _ c.args.routes.now _ c.requires.attempted c.each.result c.each.ensures

pub returns-then-is_finite-clause-plan : goal.returns-then-is_finite-clause-plan
returns-then-is_finite-clause-plan c = without_tried _ _ c.each.ensures _ c.saved_by-saved.ensures _ c.is_finite.ensures c.if-is_finite.true _ _ c.try_without.ensures.plan

pub returns-clause-plan : goal.returns-clause-plan
returns-clause-plan c = without_endless _ _ c.each.ensures _ c.saved_by-saved.ensures _ c.is_finite.ensures c.if-is_finite.false _
