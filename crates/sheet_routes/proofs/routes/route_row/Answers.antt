-- `routes::route_row` meets its contract: what the check does not find alone.
use borrow.Author.Rules.{rules}
use Rattle.sheet_reader.specs.sheet_format.Form.{stop_cell}
use Rattle.sheet_reader.specs.SheetTextReadLaws.{handed_as}
use Rattle.sheet_routes.proofs.RouteLaws.{gap, no_length, too_many, no_gap, no_stops, route_got}
use Rattle.sheet_routes.proofs.routes.route_row.Goals as goal

pub returns-in_err-k : goal.returns-in_err-k
returns-in_err-k c = handed_as _ _ _ c.from_residual.ensures.1 (no_length c.args.stops.now c.in_err-k.ensures.read)

pub returns-then-k-stops : goal.returns-then-k-stops
returns-then-k-stops c = too_many c.args.stops.now c.in_ok-k.ensures.read c.if-k-stops.true

pub returns-in_err-byte : goal.returns-in_err-byte
returns-in_err-byte c =
    handed_as _ _ _ c.from_residual-in_err-byte.ensures.1 (no_gap c.args.stops.now c.in_ok-k.ensures.read c.if-k-stops.false (gap _ c.ending.ensures c.in_err-byte.ensures))

pub returns-in_err-number_row : goal.returns-in_err-number_row
returns-in_err-number_row c =
    handed_as _ _ _ c.from_residual-in_err-number_row.ensures.1
    (no_stops c.args.stops.now c.in_ok-k.ensures.read c.if-k-stops.false (gap _ c.ending.ensures c.in_ok-byte.ensures) (c.in_err-number_row.ensures stop_cell (λ v y h. search rules)))

pub returns : goal.returns
returns c =
    route_got c.args.stops.now c.in_ok-k.ensures.read c.if-k-stops.false (gap _ c.ending.ensures c.in_ok-byte.ensures) _ c.number_row.auto.cells
    (c.in_ok-number_row.ensures stop_cell (λ v y h. search rules))
