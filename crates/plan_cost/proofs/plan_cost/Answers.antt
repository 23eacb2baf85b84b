-- `plan_cost` meets its contract: what the check does not find alone.
use Rattle.plan_cost.proofs.CostLaws.{costing_laws, costing_stops, costing_more}
use Rattle.plan_cost.proofs.plan_cost.Goals as goal

pub loop-route-init : goal.loop-route-init
loop-route-init c = search costing_laws

pub route_distance-requires-clause-depot_lt_n : goal.route_distance-requires-clause-depot_lt_n
route_distance-requires-clause-depot_lt_n c = (c.requires.depot_id_bound, costing_stops _ _ _ _ _ c.loop-route.invariant _ _ c.in-Some.ensures.steps)

pub loop-route-preserved : goal.loop-route-preserved
loop-route-preserved c = costing_more _ _ _ _ _ c.loop-route.invariant _ _ c.in-Some.ensures.steps _ c.route_distance.ensures

pub returns : goal.returns
returns c = search costing_laws
