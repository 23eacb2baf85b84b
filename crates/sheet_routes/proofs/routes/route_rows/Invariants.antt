-- What the loops of `routes::route_rows` keep.
use Prim.Native.Nat.{◌≤◌, ◌-◌}
use Rattle.sheet_routes.proofs.RouteLaws.{plan_behind}
use Rattle.sheet_reader.specs.sheet_format.Form.{route_lines, slices_of}
use Rattle.sheet_reader.specs.sheet_text.Told.{seen}
use Rattle.sheet_reader.specs.SheetTextReadLaws.{Left}
use Rattle.sheet_routes.proofs.routes.route_rows.Given as goal

abbrev pub invariant-loop-r : goal.invariant-loop-r
invariant-loop-r l = record {
  read : Left (seen slices_of (route_lines l.n 64)) l.initial.text (seen (plan_behind l.r l.lengths l.used l.stops) (route_lines (l.n - l.r) (64 - l.used))) l.text;
  few : l.used ≤ 64;
}
