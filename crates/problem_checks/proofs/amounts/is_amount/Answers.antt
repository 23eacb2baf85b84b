-- `amounts::is_amount` meets its contract: what the check does not find alone.
use borrow.Author.Rules.{rules}
use Rattle.problem_checks.proofs.AmountLaws.{amount_above, amount_tests}
use Rattle.problem_checks.proofs.amounts.is_amount.Goals as goal

pub returns-then-x : goal.returns-then-x
returns-then-x c = search amount_above

pub returns-then-not-is_sign_negative : goal.returns-then-not-is_sign_negative
returns-then-not-is_sign_negative c = rw (← amount_tests c.args.x) (search rules)

pub returns-else-not-is_sign_negative : goal.returns-else-not-is_sign_negative
returns-else-not-is_sign_negative c = rw (← amount_tests c.args.x) (search rules)
