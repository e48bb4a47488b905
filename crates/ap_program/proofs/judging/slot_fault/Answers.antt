use Rattle.std.proofs.Common.{sym, ◌∙◌}
use Rattle.ap_program.proofs.SlotFaults.{slot_fine, slot_stray, slot_transfer, stray_is}
use Rattle.ap_program.proofs.judging.slot_fault.Goals as goal

pub returns-then-is_transfer : goal.returns-then-is_transfer
returns-then-is_transfer c = λ before h. slot_transfer c.args.design.now before c.args.call.now (sym c.is_transfer.ensures ∙ c.if-is_transfer.true)

pub returns-then-is_stray : goal.returns-then-is_stray
returns-then-is_stray c = λ before h. slot_stray c.args.design.now before c.args.call.now (sym c.is_transfer.ensures ∙ c.if-is_transfer.false) (sym (stray_is c.args.design.now before c.args.so_far.now c.requires h) ∙ sym c.is_stray.ensures ∙ c.if-is_stray.true)

pub returns : goal.returns
returns c = λ before h. slot_fine c.args.design.now before c.args.call.now (sym c.is_transfer.ensures ∙ c.if-is_transfer.false) (sym (stray_is c.args.design.now before c.args.so_far.now c.requires h) ∙ sym c.is_stray.ensures ∙ c.if-is_stray.false)
