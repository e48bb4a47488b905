use Rattle.std.proofs.Common.{◌≡◌, ◌<◌, ◌+◌, ◌∷◌, List, Some, length, take, drop, refl, sym, ap, subst, ◌∙◌, arith}
use Rattle.std.specs.Prelude.{slice_get}
use Rattle.std.specs.List.{AllByRecursion as Each}
use Rattle.std.proofs.lemmas.List.{take_all}
use Rattle.std.proofs.lemmas.Option.{slice_get_within}
use Rattle.ap_net.specs.Draft.{Draft}
use Rattle.ap_pipe.specs.declared.table.StageSlots.{StageSlots}
use Rattle.ap_flight.specs.Planned.{IsNewIn, KeepsOther, register_wires, stage_plan, stages_plan, with_registers}
use Rattle.ap_flight.proofs.AllPlans.{cut_at, item_at, left_long, new_first, new_later, others_append, stages_push, step_out, step_wires}
use Rattle.ap_flight.proofs.Plans.{registers_none}
use Rattle.ap_flight.proofs.Within.{stages_few}
use Rattle.ap_front.specs.Opened.{NamesStages}
use Rattle.ap_front.proofs.Opened.{names_step}
use Rattle.ap_front.proofs.registers.stage_registers.Goals as goal

pub loop-place-init : goal.loop-place-init
loop-place-init c = rw c.new-made.ensures (record { out = registers_none c.args.out.now; wires = refl; names = tt; new = c.requires.new; fresh = c.requires.fresh; late = λ x h. h; ports = refl; others = λ name apart new. new })

pub declare_stage-requires : goal.declare_stage-requires
declare_stage-requires c =
    let design = c.args.design.now in
    let i = c.loop-place.place in
    let stages : List StageSlots = c.args.slots.now.stages in
    let items : List StageSlots = c.as_slice-widths-items.result.now in
    let s : StageSlots = c.widths-item.result in
    let at : slice_get stages i ≡ Some s = item_at items stages i s c.as_slice-widths-items.ensures (omega arith) c.widths-item.is in
    let inside : i < length stages = slice_get_within stages i s at in
    let count = c.requires.slots.count in
    let cut : drop i stages ≡ s ∷ drop (i + 1) stages = cut_at stages i s at in
    record {
      clean = c.requires.clean;
      stage = omega arith;
      slots = c.requires.slots.each i s at;
      new = new_first c.loop-place.out (stage_plan design (i + 1) s.widths) (stages_plan design (i + 1 + 1) (drop (i + 1) stages)) (subst (λ l. Each (IsNewIn c.loop-place.out) (stages_plan design (i + 1) l)) cut c.loop-place.invariant.new);
      fresh = c.loop-place.invariant.fresh;
    }

pub loop-place-preserved : goal.loop-place-preserved
loop-place-preserved c =
    let design = c.args.design.now in
    let h = c.loop-place.invariant in
    let y = c.in_ok-registers.ensures in
    let i = c.loop-place.place in
    let stages : List StageSlots = c.args.slots.now.stages in
    let items : List StageSlots = c.as_slice-widths-items.result.now in
    let s : StageSlots = c.widths-item.result in
    let at : slice_get stages i ≡ Some s = item_at items stages i s c.as_slice-widths-items.ensures (omega arith) c.widths-item.is in
    let inside : i < length stages = slice_get_within stages i s at in
    let few = stages_few design c.requires.clean in
    let count = c.requires.slots.count in
    let left = left_long stages (i + 1) in
    let a : Draft = c.args.out.now in
    let b : Draft = c.loop-place.out in
    let d : Draft = c.declare_stage.new.out in
    let more = stages_push design i s stages at in
    record {
      out = step_out design i s stages a b d at h.out y.ok;
      wires = rw c.in_ok-push.ensures.ok (step_wires design i s stages a b c.loop-place.made c.in_ok-registers.registers at h.out h.wires y.wires);
      names = rw c.in_ok-push.ensures.ok (names_step design i s stages b d c.loop-place.made c.in_ok-registers.registers at y.ok y.wires h.names);
      new = new_later design (i + 1) s (drop (i + 1) stages) b d (omega arith) y.others (subst (λ l. Each (IsNewIn b) (stages_plan design (i + 1) l)) (cut_at stages i s at) h.new);
      fresh = y.fresh;
      late = λ x k. y.late x (h.late x k);
      ports = y.ports ∙ h.ports;
      others = subst (λ l. KeepsOther l a d) (sym more) (others_append (stages_plan design 1 (take i stages)) (stage_plan design (i + 1) s.widths) a b d h.others y.others);
    }

pub returns-clause-ok : goal.returns-clause-ok
returns-clause-ok c =
    let count = c.requires.slots.count in
    let long : length c.as_slice-widths-items.result.now ≡ length c.args.slots.now.stages = ap length c.as_slice-widths-items.ensures in
    c.loop-place.invariant.out ∙ ap (λ l. with_registers c.args.out.now (stages_plan c.args.design.now 1 l)) (take_all c.loop-place.place c.args.slots.now.stages (omega arith))

pub returns-clause-names : goal.returns-clause-names
returns-clause-names c =
    let long : length c.as_slice-widths-items.result.now ≡ length c.args.slots.now.stages = ap length c.as_slice-widths-items.ensures in
    subst (λ l. NamesStages c.args.design.now c.loop-place.out 1 l c.loop-place.made) (take_all c.loop-place.place c.args.slots.now.stages (omega arith)) c.loop-place.invariant.names

pub returns-clause-wires : goal.returns-clause-wires
returns-clause-wires c =
    let count = c.requires.slots.count in
    let long : length c.as_slice-widths-items.result.now ≡ length c.args.slots.now.stages = ap length c.as_slice-widths-items.ensures in
    c.loop-place.invariant.wires ∙ ap (λ l. register_wires (length c.args.out.now.nets) (stages_plan c.args.design.now 1 l)) (take_all c.loop-place.place c.args.slots.now.stages (omega arith))

pub returns-clause-others : goal.returns-clause-others
returns-clause-others c =
    let count = c.requires.slots.count in
    let long : length c.as_slice-widths-items.result.now ≡ length c.args.slots.now.stages = ap length c.as_slice-widths-items.ensures in
    subst (λ l. KeepsOther (stages_plan c.args.design.now 1 l) c.args.out.now c.loop-place.out) (take_all c.loop-place.place c.args.slots.now.stages (omega arith)) c.loop-place.invariant.others
