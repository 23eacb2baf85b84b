-- `try_without` meets its contract: what the check does not find alone.
use native.Mathlib.Omega.{arith}
use mathlib.Core.Path.{refl}
use Rattle.route_without.proofs.WithoutLaws.{left_there, left_few, starts_lent, starts_running, still_lent, ends_with_0, without_tried}
use Rattle.route_without.proofs.try_without.Goals as goal

pub to_pool-pool-requires : goal.to_pool-pool-requires
to_pool-pool-requires c =
    (omega arith, (left_there c.each.result c.args.routes.now c.each.ensures _ c.requires.r_in_bounds, left_few c.each.result c.args.routes.now c.each.ensures c.requires.attempting))

pub try_rest-requires-clause-running : goal.try_rest-requires-clause-running
try_rest-requires-clause-running c =
    starts_running _ c.requires.attempting c.requires.r_in_bounds c.erase_route.new.routes c.to_pool-pool.result _ c.erase_route.ensures.rest c.erase_route.ensures.plan c.erase_route.ensures.kept
    (rw c.each.ensures at c.to_pool-pool.ensures) refl c.requires.has_room

pub invariant_of-routes : goal.invariant_of-routes
invariant_of-routes c = record {
  lent = still_lent _ c.requires.attempting c.requires.r_in_bounds c.erase_route.new.routes c.to_pool-pool.result _ c.erase_route.ensures.rest c.erase_route.ensures.plan c.erase_route.ensures.kept
      (rw c.each.ensures at c.to_pool-pool.ensures) refl _ _ c.try_rest.auto.lengths c.try_rest.ensures.held;
}

pub returns-clause-plan : goal.returns-clause-plan
returns-clause-plan c =
    without_tried _ c.requires.attempting c.requires.r_in_bounds c.erase_route.new.routes c.to_pool-pool.result _ c.erase_route.ensures.rest c.erase_route.ensures.plan c.erase_route.ensures.kept
    (rw c.each.ensures at c.to_pool-pool.ensures) refl c.try_rest.new.lengths c.try_rest.new.stops c.try_rest.auto.lengths _ _ c.try_rest.result c.requires.before_value refl c.try_rest.ensures.plan

pub returns-clause-held : goal.returns-clause-held
returns-clause-held c =
    ends_with_0 _ c.requires.attempting c.requires.r_in_bounds c.erase_route.new.routes c.to_pool-pool.result _ c.erase_route.ensures.rest c.erase_route.ensures.plan c.erase_route.ensures.kept
    (rw c.each.ensures at c.to_pool-pool.ensures) refl _ _ c.try_rest.auto.lengths c.try_rest.ensures.held

pub try_rest-requires-clause-lent : goal.try_rest-requires-clause-lent
try_rest-requires-clause-lent c =
    starts_lent _ c.requires.attempting c.requires.r_in_bounds c.erase_route.new.routes c.to_pool-pool.result _ c.erase_route.ensures.rest c.erase_route.ensures.plan c.erase_route.ensures.kept
    (rw c.each.ensures at c.to_pool-pool.ensures) refl
