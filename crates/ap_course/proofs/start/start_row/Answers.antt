use Rattle.std.proofs.Common.{◌≡◌, ℕ, length, replicate, None, Some, sym, ap, subst, ◌∙◌}
use Rattle.std.specs.Prelude.{slice_get}
use Rattle.std.proofs.lemmas.List.{with_items_is}
use Rattle.ap_stage.specs.declared.slot.Stored.{Stored}
use Rattle.ap_stage.specs.Slots.{FromSlots, HasStored}
use Rattle.ap_stage.proofs.Lined.{ground_on}
use Rattle.ap_course.specs.Starts.{IsStartRow}
use Rattle.ap_course.proofs.Started.{is_start, none_made}
use Rattle.ap_course.proofs.start.start_row.Goals as goal

pub sweep-requires-clause-ground : goal.sweep-requires-clause-ground
sweep-requires-clause-ground c = ground_on _ _ c.args.ground.now c.in_ok-row.ensures.makes c.requires.ground

pub sweep-requires-clause-made : goal.sweep-requires-clause-made
sweep-requires-clause-made c =
    let slots = subst (λ row. FromSlots c.args.stored.now c.args.out.now (replicate (length c.args.scope.now.widths) None) c.slot_row.new.out row) (sym c.deref_mut.ensures.value) c.in_ok-row.ensures.slots in
    none_made _ _ c.args.ground.now c.args.scope.now c.args.lines.now c.args.stored.now c.deref_mut.result.now slots c.requires.lines c.requires.apart

pub returns : goal.returns
returns c =
    let first = c.in_ok-row.ensures in
    let swept = c.in_ok-sweep.ensures in
    let row = c.in_ok-row.row in
    let value = sym c.deref_mut.ensures.value in
    let slots = subst (λ r. FromSlots c.args.stored.now c.args.out.now (replicate (length c.args.scope.now.widths) None) c.slot_row.new.out r) value first.slots in
    let has = subst (λ r. (k : ℕ) (s : Stored) → slice_get c.args.stored.now k ≡ Some s → HasStored c.slot_row.new.out c.args.scope.now r s) value first.stored in
    let long = swept.keeps.long ∙ ap length c.deref_mut.ensures.value ∙ sym row.ok.0 in
    subst (λ items. IsStartRow c.args.out.now c.sweep.new.out c.args.ground.now c.args.scope.now c.args.lines.now c.args.stored.now items) (sym (with_items_is row c.sweep.new.row long))
    (is_start c.args.out.now c.slot_row.new.out c.args.ground.now c.args.scope.now c.args.lines.now c.args.stored.now c.deref_mut.result.now slots c.requires.lines c.requires.apart c.sweep.new.out c.sweep.new.row
    first.makes swept.makes has swept.row swept.made swept.closed swept.keeps swept.others swept.low swept.from)
