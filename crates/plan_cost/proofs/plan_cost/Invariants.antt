-- What the loop of `plan_cost` keeps.
use Rattle.route_cost.specs.floats.Binary64.{0f}
use Rattle.route_cost.specs.laws.Loops.{foldl}
use Rattle.route_cost.specs.plan.Given.{routes_left}
use Rattle.plan_cost.proofs.CostLaws.{Costing, adds}
use Rattle.plan_cost.proofs.plan_cost.Given as goal

abbrev pub invariant-loop-route : goal.invariant-loop-route
invariant-loop-route l =
    Costing l.roads l.depot l.fixed (foldl (adds l.roads l.depot l.fixed) 0f (routes_left l.fn.routes)) l.sum (routes_left l.route-iterator)
