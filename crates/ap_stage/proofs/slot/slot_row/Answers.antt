use Rattle.std.proofs.Common.{length, replicate, None, sym, ap, subst, ◌∙◌}
use Rattle.std.proofs.lemmas.List.{length-replicate, with_items_is}
use Rattle.ap_stage.specs.Slots.{FromSlots, HasStored}
use Rattle.ap_stage.proofs.Slotted.{none_numbers}
use Rattle.ap_stage.proofs.Stored.{none_row}
use Rattle.ap_stage.proofs.slot.slot_row.Goals as goal

pub fill_slots-requires-clause-row : goal.fill_slots-requires-clause-row
fill_slots-requires-clause-row c = rw (c.deref_mut.ensures.value, c.in_ok-row.ensures) (none_row _ c.args.scope.now)

pub returns-clause-stored : goal.returns-clause-stored
returns-clause-stored c = λ k s at.
    let filled = c.in_ok-fill_slots.ensures in
    let row = c.in_ok-row.row in
    let long = filled.row.long ∙ sym (length-replicate (length c.args.scope.now.widths) None) ∙ sym (ap length c.in_ok-row.ensures) ∙ sym row.ok.0 in
    subst (λ items. HasStored c.fill_slots.new.out c.args.scope.now items s) (sym (with_items_is row c.fill_slots.new.row long)) (filled.stored k s at)

pub fill_slots-requires-clause-none : goal.fill_slots-requires-clause-none
fill_slots-requires-clause-none c = rw (c.deref_mut.ensures.value, c.in_ok-row.ensures) (none_numbers (length c.args.scope.now.widths))

pub returns-clause-slots : goal.returns-clause-slots
returns-clause-slots c =
    let filled = c.in_ok-fill_slots.ensures in
    let row = c.in_ok-row.row in
    let none = replicate (length c.args.scope.now.widths) None in
    let long = filled.row.long ∙ sym (length-replicate (length c.args.scope.now.widths) None) ∙ sym (ap length c.in_ok-row.ensures) ∙ sym row.ok.0 in
    subst (λ items. FromSlots c.args.stored.now c.args.out.now none c.fill_slots.new.out items) (sym (with_items_is row c.fill_slots.new.row long))
    (subst (λ before. FromSlots c.args.stored.now c.args.out.now before c.fill_slots.new.out c.fill_slots.new.row) (c.deref_mut.ensures.value ∙ c.in_ok-row.ensures) filled.slots)
