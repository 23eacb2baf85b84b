-- `routes::route_rows` meets its contract: what the check does not find alone.
use Prim.Native.Nat.{◌-◌, ◌+◌}
use mathlib.Core.Path.{◌≡◌}
use native.Mathlib.Omega.{arith}
use Rattle.sheet_routes.proofs.RouteLaws.{room_left, routes_start, route_few, routes_end, routes_fault, routes_turn}
use Rattle.sheet_reader.specs.SheetTextReadLaws.{handed_as}
use Rattle.sheet_routes.proofs.routes.route_rows.Goals as goal

pub loop-r-init : goal.loop-r-init
loop-r-init c = let all : c.args.n - 0 ≡ c.args.n = omega arith in record { read = rw all (routes_start c.args.lengths.now c.args.stops.now _ _); few = omega arith }

pub returns-in_err-k-clause-read : goal.returns-in_err-k-clause-read
returns-in_err-k-clause-read c = let l = c.loop-r in
    handed_as _ _ _ c.from_residual.ensures.1
    (routes_fault _ _ l.r l.used (c.args.n - l.r) l.invariant.read (c.args.n - (l.r + 1)) (omega arith) (room_left l.stops l.used l.invariant.few (omega arith)) c.in_err-k.ensures)

pub overflow_cast-lengths : goal.overflow_cast-lengths
overflow_cast-lengths c = omega (arith, route_few c.in_ok-k.ensures, room_left c.loop-r.stops c.loop-r.used c.loop-r.invariant.few (omega arith))

pub overflow_add-used : goal.overflow_add-used
overflow_add-used c = omega (arith, c.loop-r.invariant.few, route_few c.in_ok-k.ensures, room_left c.loop-r.stops c.loop-r.used c.loop-r.invariant.few (omega arith))

pub loop-r-preserved : goal.loop-r-preserved
loop-r-preserved c = let l = c.loop-r in let room = room_left l.stops l.used l.invariant.few (omega arith) in record {
  read = routes_turn _ _ l.r l.used (c.args.n - l.r) l.invariant.read (c.args.n - (l.r + 1)) (omega arith) _ _ room (omega arith) (omega arith) c.route_row.auto.stops c.in_ok-k.ensures;
  few = omega (arith, l.invariant.few, route_few c.in_ok-k.ensures, room);
}

pub returns : goal.returns
returns c = let l = c.loop-r in record {
  read = routes_end _ _ l.r l.used (c.args.n - l.r) l.invariant.read _ (omega arith) (omega arith);
  plan_within = (omega arith, l.invariant.few);
}
