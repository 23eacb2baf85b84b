-- `questions::cobrwydd_time_window_new` meets its contract: what the check does not find alone.
use mathlib.Core.Path.{ap, refl, ◌∙◌}
use Rattle.worth_questions.specs.planner.Calls.{answered}
use Rattle.c_answers.specs.CValuesAnswerLaws.{fault_told, floats_fit, numbers_fit, misfit_said, answer_said}
use Rattle.cobrwydd.proofs.questions.cobrwydd_time_window_new.Goals as goal

pub returns-in-Err : goal.returns-in-Err
returns-in-Err c = misfit_said _ _ _ _ _ _ _ (c.code.ensures ∙ c.in-Err.ensures) _ (fault_told _ _ c.code.ensures)

pub put_window-requires : goal.put_window-requires
put_window-requires c = (floats_fit _ _ _ _ _ _ c.in_default.ensures refl, numbers_fit _ _ _ _ _ _ c.in_default.ensures refl)

pub returns : goal.returns
returns c = answer_said _ _ _ _ _ _ _ c.in_default.ensures refl _ _ _ _ (answered c.time_window_new-window.result) c.put_window.ensures (ap answered c.time_window_new-window.ensures)
