-- `list_parts` meets its contract: what the check does not find alone.
use native.Mathlib.Omega.{arith}
use native.Mathlib.Nat.{le_trans}
use Prim.Native.Nat.{◌≤◌}
use mathlib.Core.Path.{sym}
use lib.Seq.{length-take-le}
use Rattle.sheet_whole.specs.SheetProblemProblemLaws.{square_fits}
use Rattle.sheet_parts.proofs.list_parts.Goals as goal

pub overflow_mul-m : goal.overflow_mul-m
overflow_mul-m c = record { fits = omega (arith, square_fits _ 4096 c.requires.n_bound.0 (omega arith)) }

pub overflow_mul-t : goal.overflow_mul-t
overflow_mul-t c = let h : c.args.read.head.timed ≤ 64 = omega (arith, c.requires.n_bound.0, c.requires.n_bound.1) in
    record { fits = omega (arith, square_fits _ 4096 h (omega arith)) }

pub slice_bounds-list_planned-end-2 : goal.slice_bounds-list_planned-end-2
slice_bounds-list_planned-end-2 c = sym (length-take-le _ c.args.lengths.now (le_trans c.requires.n_bound.3 c.requires.in_bounds_2.0))

pub slice_bounds-list_planned-end-4 : goal.slice_bounds-list_planned-end-4
slice_bounds-list_planned-end-4 c = sym (length-take-le _ c.args.stops.now (le_trans c.requires.n_bound.4 c.requires.in_bounds_2.1))

pub slice_bounds-list_planned-end-5 : goal.slice_bounds-list_planned-end-5
slice_bounds-list_planned-end-5 c = sym (length-take-le _ c.args.tape.now (omega (arith, c.requires.n_bound.2, c.requires.in_bounds_2.2)))

pub slice_bounds-problem-end : goal.slice_bounds-problem-end
slice_bounds-problem-end c = sym (length-take-le _ c.args.columns.now.demand.now (le_trans c.requires.n_bound.0 c.requires.column_room.demands))

pub slice_bounds-places-end : goal.slice_bounds-places-end
slice_bounds-places-end c = sym (length-take-le _ c.args.columns.now.service.now (le_trans c.requires.n_bound.0 c.requires.column_room.services))

pub slice_bounds-places-end-2 : goal.slice_bounds-places-end-2
slice_bounds-places-end-2 c = sym (length-take-le _ c.args.columns.now.ready.now (le_trans c.requires.n_bound.0 c.requires.column_room.readies))

pub slice_bounds-places-end-3 : goal.slice_bounds-places-end-3
slice_bounds-places-end-3 c = sym (length-take-le _ c.args.columns.now.due.now (le_trans c.requires.n_bound.0 c.requires.column_room.dues))

pub slice_bounds-places-end-4 : goal.slice_bounds-places-end-4
slice_bounds-places-end-4 c = sym (length-take-le _ c.args.columns.now.penalty.now (le_trans c.requires.n_bound.0 c.requires.column_room.penalties))

pub slice_bounds-places-end-5 : goal.slice_bounds-places-end-5
slice_bounds-places-end-5 c = sym (length-take-le _ c.args.columns.now.flags.now (le_trans c.requires.n_bound.0 c.requires.column_room.flag_cells))

pub slice_bounds-roads-end : goal.slice_bounds-roads-end
slice_bounds-roads-end c = sym (length-take-le _ c.args.distances.now (square_fits _ _ c.requires.n_bound.0 c.requires.in_bounds_3.0))

pub slice_bounds-roads-end-2 : goal.slice_bounds-roads-end-2
slice_bounds-roads-end-2 c = sym (length-take-le _ c.args.times.now (square_fits _ _ (omega (arith, c.requires.n_bound.0, c.requires.n_bound.1)) c.requires.in_bounds_3.1))

pub list_planned-requires : goal.list_planned-requires
list_planned-requires c = record { in_bounds = (c.requires.in_bounds.0, omega (arith, c.requires.n_bound.3, length-take-le c.args.read.request.plan.given c.args.lengths.now (le_trans c.requires.n_bound.3 c.requires.in_bounds_2.0)), omega (arith, c.requires.n_bound.4, length-take-le c.args.read.request.plan.used c.args.stops.now (le_trans c.requires.n_bound.4 c.requires.in_bounds_2.1)), c.requires.in_bounds.1, c.requires.in_bounds.2); short = c.requires.short }

pub returns : goal.returns
returns c = c.list_planned.ensures
