use Rattle.std.proofs.Common.{◌≡◌, ◌<◌, ◌+◌, ◌∷◌, [], ◌++◌, length, get_or, take, sym, ap, subst, ◌∙◌, arith, List}
use Rattle.std.proofs.lemmas.List.{take_all, take_more}
use Rattle.std.proofs.lemmas.Option.{slice_get-get_or}
use Rattle.ap_net.specs.declared.cell.Wire.{Wire}
use Rattle.ap_net.specs.Draft.{Draft, with_next}
use Rattle.ap_net.specs.Wiring.{NextFits, Unclocked}
use Rattle.ap_ctl.specs.Nets.{with_nexts}
use Rattle.ap_flight.specs.Stages.{IsLike, IsOpen}
use Rattle.ap_flight.proofs.Clocking.{apart_before, nexts_more, nexts_none, pair_at, pairs_long, still_free, taken_long}
use Rattle.ap_flight.proofs.SlotNets.{no_wire, wire_at}
use Rattle.ap_flight.proofs.stage.clock.Goals as goal

pub loop-place-init : goal.loop-place-init
loop-place-init c = record { out = nexts_none c.args.out.now; late = λ x h. h }

pub bounds-nets-place : goal.bounds-nets-place
bounds-nets-place c =
    let long = pairs_long (IsLike c.args.out.now.nets) c.args.registers.now c.args.nets.now c.requires.nets in
    omega arith

pub next-requires : goal.next-requires
next-requires c =
    let place = c.loop-place.place in
    let registers : List Wire = c.args.registers.now in
    let inside : place < length registers = omega arith in
    let r = wire_at (IsOpen c.args.out.now) registers place c.requires.registers inside in
    let n = pair_at (IsLike c.args.out.now.nets) registers c.args.nets.now place c.requires.nets inside in
    let e = sym c.loop-place.invariant.out in
    record {
      fits = subst (λ (d : Draft). NextFits d.nets (record { register = get_or registers place no_wire; from = get_or c.args.nets.now place no_wire })) e (record { register = r.net; clocked = r.register; from = n.net; same = sym n.same });
      unclocked = subst (λ (d : Draft). Unclocked d.nexts (get_or registers place no_wire).number) e (still_free c.args.out.now (take place registers) (take place c.args.nets.now) (get_or registers place no_wire).number r.free (apart_before registers place (get_or registers place no_wire) c.requires.apart (slice_get-get_or registers place no_wire inside)));
    }

pub loop-place-preserved : goal.loop-place-preserved
loop-place-preserved c =
    let place = c.loop-place.place in
    let registers : List Wire = c.args.registers.now in
    let nets : List Wire = c.args.nets.now in
    let long : length registers ≡ length nets = pairs_long (IsLike c.args.out.now.nets) registers nets c.requires.nets in
    let inside : place < length registers = omega arith in
    let also : place < length nets = omega arith in
    record {
      out = c.in_ok-next.ensures.ok ∙ ap (λ (d : Draft). with_next d (get_or registers place no_wire) (get_or nets place no_wire)) c.loop-place.invariant.out
          ∙ nexts_more c.args.out.now (take place registers) (take place nets) (get_or registers place no_wire) (get_or nets place no_wire) (taken_long place registers nets long)
          ∙ sym (ap (λ l. with_nexts c.args.out.now l (take (place + 1) nets)) (take_more registers place no_wire inside) ∙ ap (λ l. with_nexts c.args.out.now (take place registers ++ get_or registers place no_wire ∷ []) l) (take_more nets place no_wire also));
      late = λ x h. c.in_ok-next.ensures.stay x (c.loop-place.invariant.late x h);
    }

pub returns-clause-ok : goal.returns-clause-ok
returns-clause-ok c =
    let long = pairs_long (IsLike c.args.out.now.nets) c.args.registers.now c.args.nets.now c.requires.nets in
    c.loop-place.invariant.out ∙ ap (λ l. with_nexts c.args.out.now l (take c.loop-place.place c.args.nets.now)) (take_all c.loop-place.place c.args.registers.now (omega arith)) ∙ ap (λ l. with_nexts c.args.out.now c.args.registers.now l) (take_all c.loop-place.place c.args.nets.now (omega arith))
