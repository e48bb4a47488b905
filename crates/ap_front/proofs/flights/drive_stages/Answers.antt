use Rattle.std.proofs.Common.{◌≡◌, Some, refl, sym, ap, subst, ◌∙◌, arith, List}
use Rattle.std.specs.Prelude.{slice_get}
use Rattle.ap_pipe.specs.declared.table.StageSlots.{StageSlots}
use Rattle.ap_flight.specs.declared.stage.Coming.{Coming}
use Rattle.ap_flight.specs.declared.stage.StageRegisters.{StageRegisters}
use Rattle.ap_flight.specs.Stages.{DrivesStage}
use Rattle.ap_flight.proofs.AllPlans.{item_at}
use Rattle.ap_front.proofs.Driving.{all_driven, begins, coming_on, next_stage}
use Rattle.ap_front.proofs.flights.drive_stages.Goals as goal

pub loop-place-init : goal.loop-place-init
loop-place-init c = record { driven = begins c.args.registers.now c.args.slots.now c.args.comings.now c.args.out.now c.requires.fresh c.requires.stages }

pub drive_stage-requires : goal.drive_stage-requires
drive_stage-requires c =
    let i = c.loop-place.place in
    let can = c.requires.stages in
    let h = c.loop-place.invariant.driven in
    let registers : List StageRegisters = c.args.registers.now in
    let slots : List StageSlots = c.args.slots.now in
    let comings : List Coming = c.args.comings.now in
    let l1 = can.slots in
    let l2 = can.long in
    let r : StageRegisters = c.index-registers-place.result in
    let s : StageSlots = c.index-slots-place.result in
    let k : Coming = c.index-comings-place.result in
    let p1 : slice_get registers i ≡ Some r = item_at registers registers i r refl (omega arith) c.index-registers-place.is in
    let p2 : slice_get slots i ≡ Some s = item_at slots slots i s refl (omega arith) c.index-slots-place.is in
    let p3 : slice_get comings i ≡ Some k = item_at comings comings i k refl (omega arith) c.index-comings-place.is in
    let same : c.as_slice-homes.result.now ≡ s.homes = c.as_slice-homes.ensures ∙ ap (λ (x : StageSlots). x.homes) (sym c.index-slots-place.is) in
    rw same (record {
      fresh = h.fresh;
      few = can.few i r p1;
      registers = h.left i r (omega arith) p1;
      apart = can.apart i r p1;
      coming = coming_on h.extends r s.homes k (can.comes i r s k p1 p2 p3);
    })

pub loop-place-preserved : goal.loop-place-preserved
loop-place-preserved c =
    let i = c.loop-place.place in
    let can = c.requires.stages in
    let h = c.loop-place.invariant.driven in
    let registers : List StageRegisters = c.args.registers.now in
    let slots : List StageSlots = c.args.slots.now in
    let comings : List Coming = c.args.comings.now in
    let l1 = can.slots in
    let l2 = can.long in
    let r : StageRegisters = c.index-registers-place.result in
    let s : StageSlots = c.index-slots-place.result in
    let k : Coming = c.index-comings-place.result in
    let p1 : slice_get registers i ≡ Some r = item_at registers registers i r refl (omega arith) c.index-registers-place.is in
    let p2 : slice_get slots i ≡ Some s = item_at slots slots i s refl (omega arith) c.index-slots-place.is in
    let p3 : slice_get comings i ≡ Some k = item_at comings comings i k refl (omega arith) c.index-comings-place.is in
    let same : c.as_slice-homes.result.now ≡ s.homes = c.as_slice-homes.ensures ∙ ap (λ (x : StageSlots). x.homes) (sym c.index-slots-place.is) in
    let y : DrivesStage r s.homes k c.loop-place.out c.drive_stage.new.out = subst (λ homes. DrivesStage r homes k c.loop-place.out c.drive_stage.new.out) same c.in_ok-drive_stage.ensures in
    record { driven = next_stage registers slots comings i c.args.out.now c.loop-place.out c.drive_stage.new.out r s k can h p1 p2 p3 y }

pub returns : goal.returns
returns c = all_driven c.args.registers.now c.args.slots.now c.args.comings.now c.loop-place.place c.args.out.now c.loop-place.out (omega arith) c.loop-place.invariant.driven
