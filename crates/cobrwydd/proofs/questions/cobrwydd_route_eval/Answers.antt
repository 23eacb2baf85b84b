-- `questions::cobrwydd_route_eval` meets its contract: what the check does not find alone.
use mathlib.Core.Path.{refl, ◌∙◌}
use Rattle.c_vehicle.proofs.VehicleLaws.{vehicle_kept}
use Rattle.c_answers.specs.CValuesAnswerLaws.{fault_told, floats_fit, numbers_fit, misfit_said, answer_said}
use Rattle.cobrwydd.proofs.questions.cobrwydd_route_eval.Goals as goal

pub returns-in-Err : goal.returns-in-Err
returns-in-Err c = misfit_said _ _ _ _ _ _ _ (c.code.ensures ∙ c.in-Err.ensures) _ (fault_told _ _ c.code.ensures)

pub put_evaluated-requires : goal.put_evaluated-requires
put_evaluated-requires c = (floats_fit _ _ _ _ _ _ c.in_default.ensures refl, numbers_fit _ _ _ _ _ _ c.in_default.ensures refl)

pub returns : goal.returns
returns c = rw (← vehicle_kept _ _ _ _ _ _ _ _ _ _ c.ranges.capacity _ c.vehicle_of-vehicle.ensures) (answer_said _ _ _ _ _ _ _ c.in_default.ensures refl _ _ _ _ _ c.put_evaluated.ensures c.route_eval-answer.ensures)
