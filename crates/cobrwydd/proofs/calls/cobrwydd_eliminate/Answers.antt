-- `calls::cobrwydd_eliminate` meets its contract: what the check does not find alone.
use Rattle.c_vehicle.proofs.VehicleLaws.{vehicle_kept}
use Rattle.c_answers.specs.CValuesAnswerLaws.{fault_told, numbers_fit, misfit_replied, call_replied, reply_free}
use mathlib.Core.Path.{refl, ◌∙◌}
use Rattle.cobrwydd.proofs.calls.cobrwydd_eliminate.Goals as goal

pub returns-in-Err : goal.returns-in-Err
returns-in-Err c = record { reply = misfit_replied _ _ _ _ (c.code.ensures ∙ c.in-Err.ensures) _ (fault_told _ _ c.code.ensures); work = λ _. refl }

pub put_reply-requires : goal.put_reply-requires
put_reply-requires c = numbers_fit _ _ _ _ _ _ c.in_default.ensures refl

pub returns : goal.returns
returns c = record { reply = rw (← vehicle_kept _ _ _ _ _ _ _ _ _ _ c.ranges.capacity _ c.vehicle_of-vehicle.ensures) (call_replied _ _ _ _ c.in_default.ensures refl _ _ _ _ _ c.put_reply.ensures c.eliminate-reply.ensures.reply); work = reply_free c.eliminate-reply.result _ _ _ _ _ c.put_reply.ensures c.eliminate-reply.ensures.work }
