-- `questions::cobrwydd_route_feasible` meets its contract: what the check does not find alone.
use mathlib.Core.Path.{refl, ◌∙◌}
use Rattle.c_vehicle.proofs.VehicleLaws.{vehicle_kept}
use Rattle.c_answers.specs.CValuesAnswerLaws.{fault_told, numbers_fit, misfit_said, answer_said}
use Rattle.cobrwydd.proofs.questions.cobrwydd_route_feasible.Goals as goal

pub returns-in-Err : goal.returns-in-Err
returns-in-Err c = misfit_said _ _ _ _ _ _ _ (c.code.ensures ∙ c.in-Err.ensures) _ (fault_told _ _ c.code.ensures)

pub put_checked-requires : goal.put_checked-requires
put_checked-requires c = numbers_fit _ _ _ _ _ _ c.in_default.ensures refl

pub returns : goal.returns
returns c = rw (← vehicle_kept _ _ _ _ _ _ _ _ _ _ c.ranges.capacity _ c.vehicle_of-vehicle.ensures) (answer_said _ _ _ _ _ _ _ c.in_default.ensures refl _ _ _ _ _ c.put_checked.ensures c.route_feasible-answer.ensures)
