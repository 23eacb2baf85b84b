-- `sheet::cobrwydd_plan_sheet` meets its contract: what the check does not find alone.
use Rattle.c_answers.specs.CValuesAnswerLaws.{fault_told}
use mathlib.Core.Path.{refl, ◌∙◌}
use mathlib.Core.List.{[]}
use Rattle.cobrwydd.proofs.SheetLaws.{sheet_misfit, one_number, text_there}
use Rattle.cobrwydd.proofs.sheet.cobrwydd_plan_sheet.Goals as goal

pub returns-in-Err : goal.returns-in-Err
returns-in-Err c = sheet_misfit _ _ _ _ (c.code.ensures ∙ c.in-Err.ensures) (fault_told _ _ c.code.ensures)

pub put_printed-requires : goal.put_printed-requires
put_printed-requires c = one_number c.args.out.now c.args.written.now [] _ c.in_default.ensures refl

pub returns : goal.returns
returns c = text_there _ _ _ _ c.in_default.ensures refl _ _ c.plan_sheet-p.ensures _ _ c.put_printed.ensures.code c.put_printed.ensures.number
