-- `keep_route` meets its contract: what the check does not find alone.
use Rattle.std.proofs.Common.{sym, length-take-le}
use Rattle.emptied_route.proofs.EmptiedLaws.{keep_end}
use Rattle.emptied_route.proofs.keep_route.Goals as goal

pub slice_bounds-left-end : goal.slice_bounds-left-end
slice_bounds-left-end c = sym (length-take-le _ _ (keep_end c.args.routes.now _ c.route-route.ensures _ c.requires.room))

pub copy_cells-requires : goal.copy_cells-requires
copy_cells-requires c = length-take-le _ _ (keep_end c.args.routes.now _ c.route-route.ensures _ c.requires.room)
