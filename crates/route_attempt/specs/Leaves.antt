-- What an attempt leaves of the routes. Assumes nothing.
use Rattle.std.specs.Prelude.{◌≡◌, Result, Ok, Err}
use Rattle.route_without.specs.local_search.declared.rounds.Counts.{Counts}
use Rattle.route_without.specs.local_search.Search.{EndsWith0}
use Rattle.plan_copy.specs.plan.declared.routes.Routes.{Routes}

-- both slices after an attempt: as they were, or with a length less in use
abbrev pub Leaves : Result Counts Counts → Routes → Routes → Type 0
Leaves (Err n) old new = (new.lengths.now ≡ old.lengths.now) × (new.stops.now ≡ old.stops.now)
Leaves (Ok n) old new = EndsWith0 new.lengths.now new.stops.now
