use Rattle.std.proofs.Common.{◌≡◌, sym, ap, subst, ◌∙◌, List}
use Rattle.ap_net.specs.declared.cell.Wire.{Wire}
use Rattle.ap_net.specs.Draft.{Draft, Extends, with_next}
use Rattle.ap_net.proofs.Laws.{Carries-Extends, Extends-trans, IsNet-Makes, Makes-trans, next_extends}
use Rattle.ap_ctl.specs.Nets.{with_nexts}
use Rattle.ap_flight.specs.Stages.{stage_wires}
use Rattle.ap_flight.proofs.Clocking.{one_free}
use Rattle.ap_flight.proofs.Driving.{drives_stage, each_net, nexts_extend, open_made, slots_like, still_open}
use Rattle.ap_flight.proofs.SlotNets.{AreSlotNets-Extends, FitsHome-Makes}
use Rattle.ap_flight.proofs.Steps.{IsBit-Makes}
use Rattle.ap_flight.proofs.stage.drive_stage.Goals as goal

pub either-requires : goal.either-requires
either-requires c = record {
  fresh = c.requires.fresh;
  cond = c.requires.coming.hold;
  yes = c.requires.registers.0.net;
  no = c.requires.coming.word.net;
  same = c.requires.coming.word.same;
}

pub either-requires-2 : goal.either-requires-2
either-requires-2 c =
    let m = c.in_ok-word.ensures.makes in
    record {
      fresh = m.fresh c.requires.fresh;
      cond = IsBit-Makes m c.args.coming.now.hold c.requires.coming.hold;
      yes = IsNet-Makes _ _ c.args.registers.now.place m c.requires.registers.1.0.net;
      no = IsNet-Makes _ _ c.args.coming.now.place m c.requires.coming.place.net;
      same = c.requires.coming.place.same;
    }

pub slot_nets-requires : goal.slot_nets-requires
slot_nets-requires c =
    let m = Makes-trans _ _ _ c.in_ok-word.ensures.makes c.in_ok-place.ensures.makes in
    let slots : List Wire = c.args.registers.now.slots in
    record {
      fresh = m.fresh c.requires.fresh;
      few = rw c.as_slice-slots.ensures c.requires.few;
      hold = IsBit-Makes m c.args.coming.now.hold c.requires.coming.hold;
      registers = rw c.as_slice-slots.ensures (each_net _ slots (open_made _ _ m slots c.requires.registers.1.1));
      list = rw (c.as_slice-slots.ensures, c.as_slice.ensures) (FitsHome-Makes m slots c.args.homes.now c.args.coming.now.locals c.requires.coming.locals);
    }

pub next-requires : goal.next-requires
next-requires c =
    let p = Makes-trans _ _ _ c.in_ok-place.ensures.makes c.in_ok-nets.ensures.makes in
    let m = Makes-trans _ _ _ c.in_ok-word.ensures.makes p in
    let o = (open_made _ _ m (stage_wires c.args.registers.now) c.requires.registers).0 in
    let w = Carries-Extends p.adds.extends c.in_ok-word.ensures.carries in
    record { fits = record { register = o.net; clocked = o.register; from = w.net; same = sym w.wide }; unclocked = o.free }

pub next-requires-2 : goal.next-requires-2
next-requires-2 c =
    let p = c.in_ok-nets.ensures.makes in
    let m = Makes-trans _ _ _ c.in_ok-word.ensures.makes (Makes-trans _ _ _ c.in_ok-place.ensures.makes p) in
    let o = (open_made _ _ m (stage_wires c.args.registers.now) c.requires.registers).1.0 in
    let w = Carries-Extends p.adds.extends c.in_ok-place.ensures.carries in
    rw c.in_ok-next.ensures.ok (record { fits = record { register = o.net; clocked = o.register; from = w.net; same = sym w.wide }; unclocked = one_free c.slot_nets.new.out c.args.registers.now.word c.in_ok-word.word c.args.registers.now.place.number o.free (λ e. c.requires.apart.0.0 (sym e)) })

pub clock-requires : goal.clock-requires
clock-requires c =
    let p = c.in_ok-nets.ensures in
    let m = Makes-trans _ _ _ c.in_ok-word.ensures.makes (Makes-trans _ _ _ c.in_ok-place.ensures.makes p.makes) in
    let all = open_made _ _ m (stage_wires c.args.registers.now) c.requires.registers in
    let slots : List Wire = c.args.registers.now.slots in
    let d : Draft = c.slot_nets.new.out in
    let e : Draft = with_next d c.args.registers.now.word c.in_ok-word.word in
    let last : c.next-2.new.self ≡ with_next e c.args.registers.now.place c.in_ok-place.place = c.in_ok-next-2.ensures.ok ∙ ap (λ (x : Draft). with_next x c.args.registers.now.place c.in_ok-place.place) c.in_ok-next.ensures.ok in
    let grows = subst (Extends d) (sym last) (Extends-trans d e (with_next e c.args.registers.now.place c.in_ok-place.place) (next_extends d _) (next_extends e _)) in
    record {
      registers = rw c.as_slice-slots.ensures (still_open d c.next-2.new.self c.args.registers.now.word c.args.registers.now.place c.in_ok-word.word c.in_ok-place.place slots last grows all.1.1 c.requires.apart.0.1 c.requires.apart.1.0);
      apart = rw c.as_slice-slots.ensures c.requires.apart.1.1;
      nets = rw (c.as_slice-slots.ensures, c.as_slice-2.ensures) (slots_like c.next-2.new.self c.args.coming.now.hold c.args.homes.now c.args.coming.now.locals 0 slots c.in_ok-nets.nets (AreSlotNets-Extends grows c.args.coming.now.hold c.args.homes.now c.args.coming.now.locals 0 slots c.in_ok-nets.nets (rw (c.as_slice-slots.ensures, c.as_slice.ensures) at p.nets)));
    }

pub returns : goal.returns
returns c =
    let registers = c.args.registers.now in
    let homes = c.args.homes.now in
    let coming = c.args.coming.now in
    let slots : List Wire = registers.slots in
    let w = c.in_ok-word.ensures in
    let q = c.in_ok-place.ensures in
    let p = rw (c.as_slice-slots.ensures, c.as_slice.ensures) at c.in_ok-nets.ensures in
    let d : Draft = c.slot_nets.new.out in
    let e : Draft = with_next d registers.word c.in_ok-word.word in
    let f : Draft = with_next e registers.place c.in_ok-place.place in
    let two : c.next-2.new.self ≡ f = c.in_ok-next-2.ensures.ok ∙ ap (λ (x : Draft). with_next x registers.place c.in_ok-place.place) c.in_ok-next.ensures.ok in
    let last : c.clock.new.out ≡ with_nexts f slots c.in_ok-nets.nets =
    c.in_ok-clock.ensures.ok ∙ ap (λ (x : Draft). with_nexts x c.as_slice-slots.result.now c.as_slice-2.result.now) two ∙ ap (λ l. with_nexts f l c.as_slice-2.result.now) c.as_slice-slots.ensures ∙ ap (λ l. with_nexts f slots l) c.as_slice-2.ensures in
    let grows : Extends d (with_nexts f slots c.in_ok-nets.nets) = Extends-trans d e (with_nexts f slots c.in_ok-nets.nets) (next_extends d _) (Extends-trans e f (with_nexts f slots c.in_ok-nets.nets) (next_extends e _) (nexts_extend f slots c.in_ok-nets.nets)) in
    drives_stage registers homes coming c.args.out.now c.either.new.out c.either-2.new.out d c.clock.new.out c.in_ok-word.word c.in_ok-place.place c.in_ok-nets.nets
    w.carries w.yields w.makes q.carries q.yields q.makes p.nets p.reads p.makes last c.requires.fresh
    (λ x h. c.in_ok-clock.ensures.late x (c.in_ok-next-2.ensures.stay x (c.in_ok-next.ensures.stay x h)))
    (AreSlotNets-Extends (subst (Extends d) (sym last) grows) coming.hold homes coming.locals 0 slots c.in_ok-nets.nets p.nets)
