-- `routes::routes` meets its contract: what the check does not find alone.
use native.Mathlib.Omega.{arith}
use Rattle.sheet_routes.proofs.RouteLaws.{within_more}
use Rattle.sheet_reader.proofs.SectionLaws.{count_within}
use Rattle.sheet_reader.specs.sheet_format.Form.{routes, slices_of}
use Rattle.sheet_reader.specs.SheetTextReadLaws.{handed_as, seen_then, seen_stop}
use Rattle.sheet_routes.proofs.routes.routes.Goals as goal

pub route_rows-requires-clause-n_in_bounds : goal.route_rows-requires-clause-n_in_bounds
route_rows-requires-clause-n_in_bounds c = omega (arith, c.requires.in_bounds, (count_within _ _ _ _ c.in_ok-n.ensures).1)

pub returns-in_err-n-clause-read : goal.returns-in_err-n-clause-read
unfolding routes
returns-in_err-n-clause-read c = handed_as _ _ _ c.from_residual.ensures.1 (seen_stop slices_of _ c.in_err-n.ensures)

pub returns-clause-read : goal.returns-clause-read
unfolding routes
returns-clause-read c = seen_then slices_of _ c.in_ok-n.ensures c.route_rows.ensures.read

pub returns-clause-plan_within : goal.returns-clause-plan_within
returns-clause-plan_within c = within_more _ _ _ (count_within _ _ _ _ c.in_ok-n.ensures).1 c.route_rows.ensures.plan_within
