-- `minimize_routes` meets its contract: what the check does not find alone.
use mathlib.Core.Path.{◌≡◌}
use Rattle.std.proofs.Common.{rules}
use Rattle.minimization_search.specs.local_search.Search.{uncounted}
use Rattle.route_minimization.proofs.MinimizeLaws.{soft_answers, search_answers}
use Rattle.route_minimization.proofs.minimize_routes.Goals as goal

pub returns-then-given : goal.returns-then-given
returns-then-given c =
    let none_yet : c.default.result ≡ uncounted = search rules in
    rw none_yet (soft_answers _ _ _ _ _ c.args.given.now.instance.now.fleet.soft_is c.requires.whole c.if-given.true)

pub returns : goal.returns
returns c = search_answers _ _ _ _ _ c.args.given.now.instance.now.fleet.soft_is _ _ _ _ _ c.if-given.false c.search.ensures
