use Rattle.std.proofs.Common.{◌<◌, ◌++◌, length, sym, ap, ◌∙◌, arith}
use Rattle.std.specs.Prelude.{option_to_list}
use Rattle.ap_program.proofs.SourceLines.{slots_done, slots_more, slots_stop}
use Rattle.ap_program.proofs.sources.slot_lines.Goals as goal

pub returns-then-is_instr : goal.returns-then-is_instr
returns-then-is_instr c = λ all labels.
    let lt : c.loop-line.line-index < length c.args.lines.now = omega arith in
    slots_stop c.args.design.now all c.args.lines.now c.loop-line.line-index c.line-item.result c.loop-line.slots _ lt c.line-item.is (sym c.is_instr.ensures ∙ c.if-is_instr.true) (c.loop-line.invariant all labels)

pub loop-line-preserved : goal.loop-line-preserved
loop-line-preserved c = λ all labels.
    let lt : c.loop-line.line-index < length c.args.lines.now = omega arith in
    slots_more c.args.design.now all c.args.lines.now c.loop-line.line-index c.line-item.result c.loop-line.slots c.push_slot.new.slots _ lt c.line-item.is (sym c.is_instr.ensures ∙ c.if-is_instr.false)
    (c.in_ok-push_slot.ensures ∙ ap (λ s. c.loop-line.slots ++ option_to_list s) (c.in_ok-slot.ensures all labels)) (c.loop-line.invariant all labels)

pub returns : goal.returns
returns c = λ all labels. slots_done c.args.design.now all c.args.lines.now c.loop-line.line-index c.loop-line.slots _ (omega arith) (c.loop-line.invariant all labels)
