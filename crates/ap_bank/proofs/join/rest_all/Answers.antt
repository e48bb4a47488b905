use Rattle.std.proofs.Common.{◌<◌, length, get_or, take, sym, subst, arith, List}
use Rattle.std.proofs.lemmas.List.{take_all, take_more}
use Rattle.std.proofs.lemmas.Option.{slice_get-get_or}
use Rattle.ap_net.specs.declared.cell.Wire.{Wire}
use Rattle.ap_net.specs.Late.{IsLate}
use Rattle.ap_flight.proofs.Clocking.{apart_before}
use Rattle.ap_flight.proofs.SlotNets.{no_wire, wire_at}
use Rattle.ap_bank.specs.Joins.{RestsNets}
use Rattle.ap_bank.proofs.Joined.{numbers_apart, rests_more, rests_none}
use Rattle.ap_bank.proofs.join.rest_all.Goals as goal

pub loop-net-init : goal.loop-net-init
loop-net-init c = rests_none c.args.out.now

pub rest-requires : goal.rest-requires
rest-requires c =
    let i = c.loop-net.net-index in
    let nets : List Wire = c.args.nets.now in
    let inside : i < length nets = omega arith in
    let w : Wire = get_or nets i no_wire in
    c.loop-net.invariant.wires.late w (numbers_apart (take i nets) w.number (apart_before nets i w c.requires.1 (slice_get-get_or nets i no_wire inside))) (wire_at (IsLate c.args.out.now) nets i c.requires.0 inside)

pub loop-net-preserved : goal.loop-net-preserved
loop-net-preserved c =
    let i = c.loop-net.net-index in
    let nets : List Wire = c.args.nets.now in
    let inside : i < length nets = omega arith in
    let w : Wire = get_or nets i no_wire in
    subst (λ ws. RestsNets ws c.args.out.now c.rest.new.out) (sym (take_more nets i no_wire inside)) (rests_more (take i nets) w c.args.out.now c.loop-net.out c.rest.new.out c.loop-net.invariant c.in_ok-rest.ensures)

pub returns : goal.returns
returns c = subst (λ ws. RestsNets ws c.args.out.now c.loop-net.out) (take_all c.loop-net.net-index c.args.nets.now (omega arith)) c.loop-net.invariant
