-- `total` meets its contract: what the check does not find alone.
use Rattle.std.proofs.Common.{rules, tests, ◌∙◌, ℕ, arith}
use Rattle.std.proofs.lemmas.Iterator.{YieldsList-from_slice, YieldsList-from_map}
use Rattle.std.proofs.lemmas.Iterator.Consumers.{sum_by_from_yields_List, fits_by_from_yields_list}
use Rattle.plan.specs.Slices.{sum_total}
use Rattle.plan.proofs.routes.total.Goals as goal

pub sum-requires-clause-fits : goal.sum-requires-clause-fits
sum-requires-clause-fits c =
    let lengths = c.args.lengths.now in
    fits_by_from_yields_list (λ (n : ℕ). n) lengths c.map.result _
    (YieldsList-from_map _ (λ (n : ℕ). n) (YieldsList-from_slice lengths cc) c.map.ensures.closure (λ x r q k. search (rules, tests)))
    (omega (arith, sum_total lengths, c.requires))

pub returns : goal.returns
returns c =
    let lengths = c.args.lengths.now in
    sum_by_from_yields_List (λ (n : ℕ). n) lengths c.map.result _ c.sum.ensures.ran
    (YieldsList-from_map _ (λ (n : ℕ). n) (YieldsList-from_slice lengths cc) c.map.ensures.closure (λ x r q k. search (rules, tests)))
    ∙ sum_total lengths
