-- `eliminate` meets its contract: what the check does not find alone.
use mathlib.Core.Path.{◌≡◌, refl}
use Rattle.std.proofs.Common.{rules}
use Rattle.route_elimination.specs.local_search.Search.{uncounted}
use Rattle.std.proofs.lemmas.Result.{err_from_is_err_and}
use Rattle.eliminate_call.proofs.EliminateLaws.{eliminate_refused, eliminate_plan, eliminate_planned, eliminate_room, eliminate_answers}
use Rattle.eliminate_call.proofs.eliminate.Goals as goal

pub returns-in_err-eliminate_refusal-clause-reply : goal.returns-in_err-eliminate_refusal-clause-reply
returns-in_err-eliminate_refusal-clause-reply c = let p = err_from_is_err_and c.from_residual.result c.from_residual.ensures.1 in rw (p.1, p.2) (eliminate_refused _ _ _ _ (rw c.of.ensures at c.in_err-eliminate_refusal.ensures))

pub returns-in_err-eliminate_refusal-clause-work : goal.returns-in_err-eliminate_refusal-clause-work
returns-in_err-eliminate_refusal-clause-work c = let p = err_from_is_err_and c.from_residual.result c.from_residual.ensures.1 in rw p.1 refl

pub instance-requires : goal.instance-requires
instance-requires c = (eliminate_plan _ _ _ c.in_ok-eliminate_refusal.ensures).admitted

pub eliminate_routes-routes-requires-clause-whole : goal.eliminate_routes-routes-requires-clause-whole
eliminate_routes-routes-requires-clause-whole c = (eliminate_plan _ _ _ c.in_ok-eliminate_refusal.ensures).sum

pub eliminate_routes-routes-requires-clause-few : goal.eliminate_routes-routes-requires-clause-few
eliminate_routes-routes-requires-clause-few c = (eliminate_plan _ _ _ c.in_ok-eliminate_refusal.ensures).few

pub eliminate_routes-routes-requires-clause-routes_few : goal.eliminate_routes-routes-requires-clause-routes_few
eliminate_routes-routes-requires-clause-routes_few c = (eliminate_plan _ _ _ c.in_ok-eliminate_refusal.ensures).routes

pub eliminate_routes-routes-requires-clause-planned : goal.eliminate_routes-routes-requires-clause-planned
eliminate_routes-routes-requires-clause-planned c = eliminate_planned _ _ _ c.in_ok-eliminate_refusal.ensures _ c.instance.ensures

pub eliminate_routes-routes-requires-clause-work_room : goal.eliminate_routes-routes-requires-clause-work_room
eliminate_routes-routes-requires-clause-work_room c = eliminate_room _ _ _ (rw c.of.ensures at c.in_ok-eliminate_refusal.ensures) _ refl

pub returns : goal.returns
returns c =
    let none_yet : c.default.result ≡ uncounted = search rules in
    rw none_yet (record { reply = eliminate_answers _ _ _ (rw c.of.ensures at c.in_ok-eliminate_refusal.ensures) _ _ (rw c.instance.ensures at c.eliminate_routes-routes.ensures); work = tt })
