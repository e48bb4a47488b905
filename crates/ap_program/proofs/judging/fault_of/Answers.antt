use Rattle.std.proofs.Common.{◌∷◌, ◌++◌, Some, ap, ◌∙◌}
use Rattle.std.proofs.lemmas.Result.{IfOk-weaker}
use Rattle.ap_program.proofs.SaidFaults.{said_instr, said_slot}
use Rattle.ap_program.proofs.judging.fault_of.Goals as goal

pub returns-in-Some-Instr : goal.returns-in-Some-Instr
returns-in-Some-Instr c = IfOk-weaker c.call_fault.result _ _ (λ fault is before after labels kept next. is (before ++ c.args.line.now ∷ after) labels ∙ said_instr c.args.design.now before c.args.line.now after _ (c.in-Some-Instr.is ∙ ap Some (rw c.in-Some-Instr.is at c.in-Some-Instr.field-0-is))) c.call_fault.ensures

pub returns-in-Some-Slot : goal.returns-in-Some-Slot
returns-in-Some-Slot c = IfOk-weaker c.slot_line_fault.result _ _ (λ fault is before after labels kept next. is (before ++ c.args.line.now ∷ after) before labels kept ∙ said_slot c.args.design.now before c.args.line.now after _ (c.in-Some-Slot.is ∙ ap Some (rw c.in-Some-Slot.is at c.in-Some-Slot.field-0-is))) c.slot_line_fault.ensures
