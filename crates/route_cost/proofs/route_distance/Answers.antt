-- `route_distance` meets its contract: what the check does not find alone.
use Rattle.route_cost.proofs.DistanceLaws.{going_start}
use Rattle.route_cost.proofs.route_distance.Goals as goal

pub loop-c-init : goal.loop-c-init
loop-c-init c =
    going_start _ _ _ _ _ c.in-Some.ensures.cases.0 c.requires.depot_lt_n.1 _ c.requires.n_bound.0 c.requires.n_bound.1 c.requires.depot_lt_n.0 c.get-dist.ensures
