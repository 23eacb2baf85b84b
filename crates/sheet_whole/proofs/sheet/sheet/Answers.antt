-- `sheet::sheet` meets its contract: what the check does not find alone.
use mathlib.Core.Path.{sym}
use Rattle.sheet_whole.proofs.SheetLaws.{err_mapped, no_sheet_within, no_problem, no_request, sheet_got}
use Rattle.sheet_draws.specs.sheet_reader.Cells.{keeps_same}
use Rattle.sheet_draws.specs.sheet_format.Faults.{too_long}
use Rattle.sheet_whole.proofs.sheet.sheet.Goals as goal

pub returns-then-s-gt-MOST_BYTES : goal.returns-then-s-gt-MOST_BYTES
returns-then-s-gt-MOST_BYTES c = record { result_after = sym (too_long _ _ c.if-s-gt-MOST_BYTES.true); sheet_within = tt; kept = keeps_same _ }

pub request-requires : goal.request-requires
request-requires c = c.requires.in_bounds

pub returns-in_err-head : goal.returns-in_err-head
returns-in_err-head c = record {
  result_after = err_mapped _ _ _ _ c.from_residual.ensures.1 (no_problem c.if-s-gt-MOST_BYTES.false c.in_err-head.ensures.read);
  sheet_within = no_sheet_within _ _ c.from_residual.ensures.1;
  kept = c.in_err-head.ensures.kept;
}

pub returns-in_err-request : goal.returns-in_err-request
returns-in_err-request c = record {
  result_after = err_mapped _ _ _ _ c.from_residual-in_err-request.ensures.1 (no_request c.if-s-gt-MOST_BYTES.false c.in_ok-head.ensures.read c.in_err-request.ensures.read);
  sheet_within = no_sheet_within _ _ c.from_residual-in_err-request.ensures.1;
  kept = c.in_ok-head.ensures.kept;
}

pub returns : goal.returns
returns c = let w = c.in_ok-head.ensures.problem_within in let v = c.in_ok-request.ensures.request_within in record {
  result_after = sheet_got c.if-s-gt-MOST_BYTES.false c.in_ok-head.ensures.read c.in_ok-request.ensures.read;
  sheet_within = (w.0, w.1, v.0, v.1, v.2);
  kept = c.in_ok-head.ensures.kept;
}
