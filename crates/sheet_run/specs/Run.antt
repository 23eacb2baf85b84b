-- What is read of a run. Assumes nothing.
use Rattle.sheet_format.specs.Form.{Run}
use Rattle.sheet_run.specs.declared.RunLine.{RunLine}

-- M, K
abbrev pub run_of : RunLine → Run
run_of r = record { limit = r.limit; clock = r.clock }
