-- `rest` meets its contract: what the check does not find alone.
use borrow.Author.Rules.{rules}
use Rattle.sheet_format.specs.Form.{break}
use Rattle.sheet_format.specs.SheetTextReadLaws.{reads}
use Rattle.sheet_rest.proofs.rest.Goals as goal

pub returns-in_err-m : goal.returns-in_err-m
unfolding break
returns-in_err-m c = search (rules, reads)

pub returns-then-m-eq0 : goal.returns-then-m-eq0
unfolding break
returns-then-m-eq0 c = search (rules, reads)

pub returns : goal.returns
unfolding break
returns c = search (rules, reads)
