-- `windows_pass` meets its contract: what the check does not find alone.
use Rattle.std.proofs.Common.{rules, tests, ◌∙◌, length}
use Rattle.std.proofs.Math.Nat.{sub-zero}
use Rattle.std.proofs.lemmas.Iterator.{YieldsList-from_range}
use Rattle.std.proofs.lemmas.Iterator.Search.{all_from_yields_List}
use Rattle.problem_checks.specs.models.Valid.{window_ordered}
use Rattle.problem_checks.specs.laws.Searches.{range_every}
use Rattle.place_checks.proofs.windows_pass.Goals as goal

pub returns : goal.returns
returns c =
    let t = window_ordered c.args.places.now in
    let n = length c.args.places.now.flags in
    all_from_yields_List t _ _ _ c.all.ensures.ran (YieldsList-from_range 0 n n (search rules) (sub-zero n)) (λ x b q k. search (rules, tests)) ∙ range_every t n 0
