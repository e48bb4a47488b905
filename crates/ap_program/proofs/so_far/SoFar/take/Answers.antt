use Rattle.std.proofs.Common.{Some, refl, ap, ◌∙◌}
use Rattle.ap_program.specs.Labels.{with_label}
use Rattle.ap_program.specs.SoFar.{counts_with}
use Rattle.ap_program.proofs.CountedLines.{took_data, took_instr, took_label, took_nothing, took_slot}
use Rattle.ap_program.proofs.so_far.SoFar.take.Goals as goal

pub returns-in_ok-add-in-Some-Label : goal.returns-in_ok-add-in-Some-Label
returns-in_ok-add-in-Some-Label c = λ before h. took_label c.args.design.now before c.args.self.now _ c.args.line.now _ h (c.in-Some-Label.is ∙ ap Some (rw c.in-Some-Label.is at c.in-Some-Label.field-0-is)) (c.in_ok-add-in-Some-Label.ensures ∙ ap (λ n. with_label c.args.self.now.seen n 0) c.as_str.ensures.same) refl refl

pub returns-in-Some-Instr : goal.returns-in-Some-Instr
returns-in-Some-Instr c = λ before h. took_instr c.args.design.now before c.args.self.now _ c.args.line.now _ h (c.in-Some-Instr.is ∙ ap Some (rw c.in-Some-Instr.is at c.in-Some-Instr.field-0-is)) refl c.slots_behind-self.ensures refl

pub returns-in-Some-Slot : goal.returns-in-Some-Slot
returns-in-Some-Slot c = λ before h. took_slot c.args.design.now before c.args.self.now _ c.args.line.now _ h (c.in-Some-Slot.is ∙ ap Some (rw c.in-Some-Slot.is at c.in-Some-Slot.field-0-is)) refl c.one_more-self.ensures refl

pub returns-in_ok-self-in-Some-Data : goal.returns-in_ok-self-in-Some-Data
returns-in_ok-self-in-Some-Data c = λ before h. took_data c.args.design.now before c.args.self.now _ c.args.line.now _ _ h (c.in-Some-Data.is ∙ ap Some (rw c.in-Some-Data.is at c.in-Some-Data.field-0-is)) refl refl (c.in_ok-self-in-Some-Data.ensures ∙ ap (λ ws. counts_with c.args.design.now ws c.as_str-in-Some-Data.result.now c.len.result) c.as_slice-counts.ensures ∙ ap (λ n. counts_with c.args.design.now c.args.self.now.words n c.len.result) c.as_str-in-Some-Data.ensures.same ∙ ap (counts_with c.args.design.now c.args.self.now.words c.in-Some-Data.mem) c.len.ensures)

pub returns-in-None : goal.returns-in-None
returns-in-None c = λ before h. took_nothing c.args.design.now before c.args.self.now _ c.args.line.now h c.in-None.is refl refl refl
