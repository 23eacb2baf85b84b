-- `amounts::amounts_pass` meets its contract: what the check does not find alone.
use Rattle.std.proofs.Common.{rules, tests, ◌∙◌}
use Rattle.std.proofs.lemmas.Iterator.{YieldsList-from_slice}
use Rattle.std.proofs.lemmas.Iterator.Search.{all_from_yields_List}
use lib.Ieee.{nan}
use Rattle.models.specs.Valid.{is_amount}
use Rattle.problem_checks.proofs.AmountLaws.{all_every}
use Rattle.problem_checks.proofs.amounts.amounts_pass.Goals as goal

pub returns : goal.returns
returns c =
    let xs = c.args.xs.now in
    all_from_yields_List is_amount _ _ _ c.all.ensures.ran (YieldsList-from_slice xs cc) (λ x b q k. search (rules, tests)) ∙ all_every is_amount nan xs
