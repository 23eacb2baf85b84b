-- `calls::route_refusal` meets its contract: what the check does not find alone.
use borrow.Author.Rules.{rules}
use Rattle.refusals.proofs.RefusalLaws.{route_laws}
use Rattle.refusals.proofs.calls.route_refusal.Goals as goal

pub returns-in_err-problem_rows : goal.returns-in_err-problem_rows
returns-in_err-problem_rows c = search (rules, route_laws)

pub returns : goal.returns
returns c = search (rules, route_laws)
