-- `try_next` meets its contract: what the check does not find alone.
use mathlib.Core.Path.{refl}
use Rattle.minimization.specs.LocalSearchNextLaws.{no_pick, pick_there}
use Rattle.minimization_round.proofs.NextLaws.{kept_round, kept_held, accepted_round, accepted_held}
use Rattle.minimization_round.proofs.try_next.Goals as goal

pub returns-in_default-clause-round : goal.returns-in_default-clause-round
returns-in_default-clause-round c = no_pick _ _ _ c.pick_after.ensures _ _ _ c.in_default.is

pub attempt-tried-requires-clause-r_in_bounds : goal.attempt-tried-requires-clause-r_in_bounds
attempt-tried-requires-clause-r_in_bounds c = pick_there _ _ _ c.in-Some.ensures _ refl

pub returns-in-Err-clause-round : goal.returns-in-Err-clause-round
returns-in-Err-clause-round c = kept_round c.args.routes.now _ _ c.in-Some.ensures _ refl _ _ _ _ _ c.attempt-tried.ensures.plan c.attempt-tried.ensures.held _ c.requires.drawn c.in-Err.is

pub returns-in-Err-clause-held : goal.returns-in-Err-clause-held
returns-in-Err-clause-held c = kept_held c.args.routes.now _ _ c.in-Some.ensures _ refl _ _ _ _ c.attempt-tried.new.routes c.attempt-tried.ensures.plan c.attempt-tried.ensures.held _ c.requires.drawn c.in-Err.is

pub returns-in-Ok-clause-round : goal.returns-in-Ok-clause-round
returns-in-Ok-clause-round c = accepted_round c.args.routes.now _ _ c.in-Some.ensures _ refl _ _ _ _ c.attempt-tried.new.routes c.attempt-tried.ensures.plan c.attempt-tried.ensures.held _ c.requires.drawn c.in-Ok.is

pub returns-in-Ok-clause-held : goal.returns-in-Ok-clause-held
returns-in-Ok-clause-held c =
    accepted_held c.args.routes.now _ _ c.in-Some.ensures _ refl _ _ _ _ c.attempt-tried.new.routes c.attempt-tried.ensures.plan c.attempt-tried.ensures.held _ c.requires.drawn c.in-Ok.is
    c.requires.attempting.whole c.attempt-tried.ensures.kept c.requires.attempting.planned
