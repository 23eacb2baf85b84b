-- `route_rows` meets its contract: what the check does not find alone.
use borrow.Author.Rules.{rules}
use Rattle.stop_checks.specs.entry.Rows.{route_rows}
use Rattle.refusal_rows.proofs.route_rows.Goals as goal

pub returns-then-not-stops_pass : goal.returns-then-not-stops_pass
unfolding route_rows
returns-then-not-stops_pass c = search rules

pub returns : goal.returns
unfolding route_rows
returns c = search rules
