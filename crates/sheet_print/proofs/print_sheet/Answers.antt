-- `print_sheet` meets its contract: what the check does not find alone.
use Rattle.sheet_planner.proofs.OutputLaws.{bytes_there, bytes_counted}
use Rattle.sheet_print.proofs.print_sheet.Goals as goal

pub slice_bounds-write_all-end : goal.slice_bounds-write_all-end
slice_bounds-write_all-end c = bytes_there _ _ _ _ _ c.in-Some.is c.plan_sheet.ensures c.plan_sheet.auto.out

pub slice_bounds-write_all-end-in-Some : goal.slice_bounds-write_all-end-in-Some
slice_bounds-write_all-end-in-Some c = bytes_counted _ _ _ _ _ c.in-Some.is c.plan_sheet.ensures c.plan_sheet.auto.out
