-- `questions::cobrwydd_effective_cost` meets its contract: what the check does not find alone.
use mathlib.Core.Path.{refl, ◌∙◌}
use Rattle.c_vehicle.proofs.VehicleLaws.{vehicle_kept}
use Rattle.c_answers.specs.CValuesAnswerLaws.{fault_told, floats_fit, misfit_said, answer_said}
use Rattle.cobrwydd.proofs.questions.cobrwydd_effective_cost.Goals as goal

pub returns-in-Err : goal.returns-in-Err
returns-in-Err c = misfit_said _ _ _ _ _ _ _ (c.code.ensures ∙ c.in-Err.ensures) _ (fault_told _ _ c.code.ensures)

pub put_number-requires : goal.put_number-requires
put_number-requires c = floats_fit _ _ _ _ _ _ c.in_default.ensures refl

pub returns : goal.returns
returns c = rw (← vehicle_kept _ _ _ _ _ _ _ _ _ _ c.ranges.capacity _ c.vehicle_of-vehicle.ensures) (answer_said _ _ _ _ _ _ _ c.in_default.ensures refl _ _ _ _ _ c.put_number.ensures c.effective_cost-answer.ensures)
