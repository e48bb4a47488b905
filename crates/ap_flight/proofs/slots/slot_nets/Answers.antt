use Rattle.std.proofs.Common.{◌<◌, ◌∷◌, [], ◌++◌, length, get_or, take, sym, ◌∙◌, subst, arith, List, ℕ}
use Rattle.std.specs.List.{AllByRecursion as Each}
use Rattle.std.proofs.lemmas.List.{take_all, take_more}
use Rattle.std.proofs.lemmas.Option.{slice_get-get_or}
use Rattle.ap_net.specs.declared.cell.Wire.{Wire}
use Rattle.ap_net.specs.Cells.{IsNet}
use Rattle.ap_net.specs.Draft.{Draft}
use Rattle.ap_net.specs.Pending.{Yields}
use Rattle.ap_net.specs.Ready.{numbers}
use Rattle.ap_net.proofs.Laws.{IsNet-Makes, Makes-refl, Makes-trans, Reads-refl, Yields-after}
use Rattle.ap_flight.specs.declared.entry.Leaving.{Leaving}
use Rattle.ap_flight.specs.Entries.{IsLeaving, leaving_numbers, left_to}
use Rattle.ap_flight.specs.Stages.{AreSlotNets}
use Rattle.ap_flight.proofs.SlotNets.{AreSlotNets-Extends, AreSlotNets-push, FitsHome-Makes, from_push, left_fits, no_wire, slot_from, taken_count, wire_at}
use Rattle.ap_flight.proofs.Steps.{IsBit-Makes}
use Rattle.ap_flight.proofs.slots.slot_nets.Goals as goal

pub loop-place-init : goal.loop-place-init
loop-place-init c = rw c.new-nets.ensures (record { nets = tt; reads = Reads-refl _ c.args.out.now; results = tt; makes = Makes-refl c.args.out.now })

pub slot_net-requires : goal.slot_net-requires
slot_net-requires c =
    let m = c.loop-place.invariant.makes in
    let place = c.loop-place.place in
    let registers : List Wire = c.args.registers.now in
    let inside : place < length registers = omega arith in
    let register : Wire = get_or registers place no_wire in
    record {
      fresh = m.fresh c.requires.fresh;
      hold = IsBit-Makes m c.args.hold c.requires.hold;
      register = IsNet-Makes _ _ register m (wire_at (IsNet c.args.out.now.nets) registers place c.requires.registers inside);
      list = subst (λ l. Each (IsLeaving c.loop-place.out.nets register.width) l) (sym (c.deref.ensures.value ∙ c.in_ok-left.ensures))
          (left_fits c.loop-place.out.nets registers place register c.args.homes.now c.args.list.now (slice_get-get_or registers place no_wire inside) (FitsHome-Makes m registers c.args.homes.now c.args.list.now c.requires.list));
    }

pub loop-place-preserved : goal.loop-place-preserved
loop-place-preserved c =
    let h = c.loop-place.invariant in
    let place = c.loop-place.place in
    let registers : List Wire = c.args.registers.now in
    let homes = c.args.homes.now in
    let list : List Leaving = c.args.list.now in
    let inside : place < length registers = omega arith in
    let register : Wire = get_or registers place no_wire in
    let left : List Leaving = left_to place homes list in
    let y = rw (c.deref.ensures.value ∙ c.in_ok-left.ensures) at c.in_ok-net.ensures in
    let w : Wire = c.in_ok-net.net in
    let a : Draft = c.args.out.now in
    let b : Draft = c.loop-place.out in
    let d : Draft = c.slot_net.new.out in
    let from : List ℕ = c.args.hold.number ∷ numbers registers ++ leaving_numbers list in
    let all : Yields from a d w = Yields-after from (c.args.hold.number ∷ register.number ∷ leaving_numbers left) a b d w h.reads y.yields (slot_from c.args.hold registers homes list place inside a b) in
    rw c.in_ok-push.ensures.ok (record {
      nets = subst (λ l. AreSlotNets d c.args.hold homes list 0 l (c.loop-place.nets ++ w ∷ [])) (sym (take_more registers place no_wire inside))
          (AreSlotNets-push d c.args.hold homes list 0 (take place registers) c.loop-place.nets register w (AreSlotNets-Extends y.makes.adds.extends c.args.hold homes list 0 (take place registers) c.loop-place.nets h.nets)
          (rw (taken_count place registers inside) y.carries));
      reads = all.reads;
      results = from_push from a b d c.loop-place.nets w y.makes.adds.extends h.results all.result;
      makes = Makes-trans _ _ _ h.makes y.makes;
    })

pub returns-clause-nets : goal.returns-clause-nets
returns-clause-nets c = subst (λ l. AreSlotNets c.loop-place.out c.args.hold c.args.homes.now c.args.list.now 0 l c.loop-place.nets) (take_all c.loop-place.place c.args.registers.now (omega arith)) c.loop-place.invariant.nets
