-- `join` meets its contract: what the check does not find alone.
use Rattle.std.proofs.Common.{rules, sym, length-take-le}
use Rattle.stop_exchange.specs.plan.Slices.{position_route}
use Rattle.joined_tails.proofs.JoinLaws.{front_fits, back_fits, joined_long, joined_stand}
use Rattle.joined_tails.proofs.join.Goals as goal

pub route-requires : goal.route-requires
route-requires c = search (rules, position_route)

pub route-requires-2 : goal.route-requires-2
route-requires-2 c = search (rules, position_route)

pub split_at_mut-first-requires : goal.split_at_mut-first-requires
split_at_mut-first-requires c = front_fits c.args.routes _ _ _ _ c.requires.other c.requires.first c.requires.second c.route.ensures c.route-2.ensures _ c.requires.has_room

pub slice_bounds-copy_cells-end : goal.slice_bounds-copy_cells-end
slice_bounds-copy_cells-end c = back_fits c.args.routes _ _ _ _ c.requires.other c.requires.first c.requires.second c.route.ensures c.route-2.ensures _ _ c.requires.has_room c.split_at_mut-first.ensures.back_len

pub slice_bounds-copy_cells-end-2 : goal.slice_bounds-copy_cells-end-2
slice_bounds-copy_cells-end-2 c = sym (length-take-le _ _ (back_fits c.args.routes _ _ _ _ c.requires.other c.requires.first c.requires.second c.route.ensures c.route-2.ensures _ _ c.requires.has_room c.split_at_mut-first.ensures.back_len))

pub copy_cells-requires-2 : goal.copy_cells-requires-2
copy_cells-requires-2 c = length-take-le _ _ (back_fits c.args.routes _ _ _ _ c.requires.other c.requires.first c.requires.second c.route.ensures c.route-2.ensures _ _ c.requires.has_room c.split_at_mut-first.ensures.back_len)

pub slice_bounds-result-end : goal.slice_bounds-result-end
slice_bounds-result-end c = joined_long c.args.routes _ _ _ _ c.requires.other c.requires.first c.requires.second c.route.ensures c.route-2.ensures c.copy_cells.new.dst c.copy_cells-2.new.dst (search rules) (search rules) _

pub returns : goal.returns
returns c = joined_stand c.args.routes _ _ _ _ c.requires.other c.requires.first c.requires.second c.route.ensures c.route-2.ensures c.copy_cells.new.dst c.copy_cells-2.new.dst (search rules) (search rules) _
