-- `lists::cobrwydd_run_calls` meets its contract: what the check does not find alone.
use Rattle.c_answers.specs.CValuesAnswerLaws.{fault_told}
use mathlib.Core.Path.{refl, ◌∙◌}
use borrow.Author.Rules.{rules}
use Rattle.c_vehicle.proofs.VehicleLaws.{vehicle_kept}
use Rattle.cobrwydd.proofs.ListLaws.{list_misfit, slices_gone, list_told}
use Rattle.cobrwydd.proofs.lists.cobrwydd_run_calls.Goals as goal

pub returns-in-Err : goal.returns-in-Err
returns-in-Err c = list_misfit _ _ _ _ _ (c.code.ensures ∙ c.in-Err.ensures) _ (fault_told _ _ c.code.ensures)

pub returns : goal.returns
returns c =
    let k = c.run_calls-ran.ensures.kept in
    rw (← vehicle_kept _ _ _ _ _ _ _ _ _ _ c.ranges.capacity _ c.vehicle_of-vehicle.ensures)
    (list_told _ _ _ _ _ c.in_default.ensures _ _ refl _ c.run_calls-ran.result _
    (slices_gone k (search rules) (search rules) (search rules) (search rules) (search rules) (search rules))
    c.ran_code.ensures c.run_calls-ran.ensures.leaves)
