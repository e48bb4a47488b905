use Rattle.std.proofs.Common.{◌<◌, ◌+◌, ◌∷◌, [], ◌++◌, length, get_or, take, sym, ap, subst, ◌∙◌, arith, List}
use Rattle.std.proofs.lemmas.List.{take_all, take_more}
use Rattle.std.proofs.lemmas.Option.{slice_get-get_or}
use Rattle.ap_net.specs.declared.cell.Wire.{Wire}
use Rattle.ap_net.specs.Draft.{Draft, with_next}
use Rattle.ap_net.specs.Wiring.{NextFits, Unclocked}
use Rattle.ap_ctl.specs.Building.{IsBit}
use Rattle.ap_ctl.specs.Nets.{IsFreeRegister, with_nexts}
use Rattle.ap_ctl.proofs.Beside.{each_index, no_wire}
use Rattle.ap_ctl.proofs.ValidBits.{apart_before, nexts_more, nexts_none, still_free, taken_long}
use Rattle.ap_ctl.proofs.control.clock.Goals as goal

pub loop-place-init : goal.loop-place-init
loop-place-init c = record { out = nexts_none c.args.out.now; late = λ x h. h }

pub next-requires : goal.next-requires
next-requires c =
    let place = c.loop-place.place in
    let registers : List Wire = c.args.registers.now in
    let inside : place < length registers = omega arith in
    let also : place < length c.args.nets.now = omega (arith, c.requires.long) in
    let r = each_index (IsFreeRegister c.args.out.now) registers place no_wire c.requires.registers inside in
    let n = each_index (IsBit c.args.out.now.nets) c.args.nets.now place no_wire c.requires.nets also in
    let e = sym c.loop-place.invariant.out in
    record {
      fits = subst (λ (d : Draft). NextFits d.nets (record { register = get_or registers place no_wire; from = get_or c.args.nets.now place no_wire })) e (record { register = r.net.net; clocked = r.register; from = n.net; same = r.net.bit ∙ sym n.bit });
      unclocked = subst (λ (d : Draft). Unclocked d.nexts (get_or registers place no_wire).number) e (still_free c.args.out.now (take place registers) (take place c.args.nets.now) (get_or registers place no_wire).number r.free (apart_before registers place (get_or registers place no_wire) c.requires.apart (slice_get-get_or registers place no_wire inside)));
    }

pub loop-place-preserved : goal.loop-place-preserved
loop-place-preserved c =
    let place = c.loop-place.place in
    let registers : List Wire = c.args.registers.now in
    let nets : List Wire = c.args.nets.now in
    let inside : place < length registers = omega arith in
    let also : place < length nets = omega (arith, c.requires.long) in
    record {
      out = c.in_ok-next.ensures.ok ∙ ap (λ (d : Draft). with_next d (get_or registers place no_wire) (get_or nets place no_wire)) c.loop-place.invariant.out
          ∙ nexts_more c.args.out.now (take place registers) (take place nets) (get_or registers place no_wire) (get_or nets place no_wire) (taken_long place registers nets (sym c.requires.long))
          ∙ sym (ap (λ l. with_nexts c.args.out.now l (take (place + 1) nets)) (take_more registers place no_wire inside) ∙ ap (λ l. with_nexts c.args.out.now (take place registers ++ get_or registers place no_wire ∷ []) l) (take_more nets place no_wire also));
      late = λ x h. c.in_ok-next.ensures.stay x (c.loop-place.invariant.late x h);
    }

pub returns-clause-ok : goal.returns-clause-ok
returns-clause-ok c =
    c.loop-place.invariant.out ∙ ap (λ l. with_nexts c.args.out.now l (take c.loop-place.place c.args.nets.now)) (take_all c.loop-place.place c.args.registers.now (omega arith)) ∙ ap (λ l. with_nexts c.args.out.now c.args.registers.now l) (take_all c.loop-place.place c.args.nets.now (omega (arith, c.requires.long)))
