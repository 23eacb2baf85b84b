-- `request::request` meets its contract: what the check does not find alone.
use Rattle.sheet_whole.proofs.RequestLaws.{no_draws, no_routes, no_run, request_got}
use Rattle.sheet_draws.specs.SheetTextReadLaws.{handed_as}
use Rattle.sheet_whole.proofs.request.request.Goals as goal

pub returns-in_err-draws-clause-read : goal.returns-in_err-draws-clause-read
returns-in_err-draws-clause-read c = handed_as _ _ _ c.from_residual.ensures.1 (no_draws c.in_err-draws.ensures.read)

pub returns-in_err-plan-clause-read : goal.returns-in_err-plan-clause-read
returns-in_err-plan-clause-read c = handed_as _ _ _ c.from_residual-in_err-plan.ensures.1 (no_routes c.in_ok-draws.ensures.read c.in_err-plan.ensures.read)

pub returns-in_err-run-clause-read : goal.returns-in_err-run-clause-read
returns-in_err-run-clause-read c =
    handed_as _ _ _ c.from_residual-in_err-run.ensures.1 (no_run c.in_ok-draws.ensures.read c.in_ok-plan.ensures.read c.in_err-run.ensures)

pub returns : goal.returns
returns c = record {
  read = request_got c.in_ok-draws.ensures.read c.in_ok-plan.ensures.read c.in_ok-run.ensures;
  request_within = (c.in_ok-draws.ensures.at_most, c.in_ok-plan.ensures.plan_within.0, c.in_ok-plan.ensures.plan_within.1);
}
