use Rattle.std.proofs.Common.{List, get_or, refl, sym, subst}
use Rattle.std.specs.Prelude.{Contains}
use Rattle.ap_net.specs.declared.cell.Wire.{Wire}
use Rattle.ap_ctl.specs.Building.{IsBit}
use Rattle.ap_front.proofs.Driving.{bit_on}
use Rattle.ap_front.proofs.Shown.{first_is, first_there, no_net}
use Rattle.ap_flow.proofs.Flowing.{bits_on, can_fetch, kill_late, shown_apart, stall_late, to_fetched}
use Rattle.ap_flow.proofs.flow.make_flow.Goals as goal

pub drive_flights-requires : goal.drive_flights-requires
drive_flights-requires c =
    let can = c.requires.can in
    let nets = c.args.out.now.nets in
    record {
      clean = c.requires.clean;
      slots = c.requires.slots;
      fresh = c.requires.fresh;
      hold = subst (λ (l : List Wire). IsBit nets (get_or l 0 no_net)) (sym c.as_slice.ensures) (first_is c.args.out.now c.args.control.now.hold can.some can.hold);
      can = can;
    }

pub fetch-requires : goal.fetch-requires
fetch-requires c =
    let can = c.requires.can in
    let nets = c.args.out.now.nets in
    let flights = c.in_ok-comings.ensures in
    let hold : Wire = get_or c.as_slice.result.now 0 no_net in
    let bit : IsBit nets hold = subst (λ (l : List Wire). IsBit nets (get_or l 0 no_net)) (sym c.as_slice.ensures) (first_is c.args.out.now c.args.control.now.hold can.some can.hold) in
    record {
      fresh = flights.drives.fresh;
      given = can_fetch c.args.design.now c.args.out.now c.args.slots.now c.args.registers.now c.args.ports.now c.args.control.now c.args.target c.args.stages.now can hold c.in_ok-comings.comings c.drive_flights.new.out bit flights.drives;
    }

pub show_control-requires : goal.show_control-requires
show_control-requires c =
    let can = c.requires.can in
    let a = c.args.out.now in
    let b = c.drive_flights.new.out in
    let d = c.fetch.new.out in
    let y = c.in_ok-comings.ensures.drives in
    let z = c.in_ok-fetch.ensures in
    let comings = c.in_ok-comings.comings in
    let e = to_fetched c.args.design.now a c.args.slots.now c.args.registers.now c.args.ports.now c.args.control.now c.args.target c.args.stages.now can _ comings b d refl y z in
    record {
      some = can.some;
      hold = bits_on a d c.args.control.now.hold e can.hold;
      killed = bit_on e c.args.control.now.kill can.killed;
      stall = stall_late c.args.design.now a c.args.slots.now c.args.registers.now c.args.ports.now c.args.control.now c.args.target c.args.stages.now can _ comings b d refl y z;
      stall_bit = can.ports.stall.wide;
      kill = kill_late c.args.design.now a c.args.slots.now c.args.registers.now c.args.ports.now c.args.control.now c.args.target c.args.stages.now can _ comings b d refl y z;
      kill_bit = can.ports.kill.wide;
      apart = shown_apart c.args.design.now a c.args.slots.now c.args.registers.now c.args.ports.now c.args.control.now c.args.target c.args.stages.now can;
    }

pub returns : goal.returns
returns c =
    let can = c.requires.can in
    let hold : Wire = get_or c.as_slice.result.now 0 no_net in
    record {
      can = can;
      hold = hold;
      first = subst (λ (l : List Wire). Contains c.args.control.now.hold (get_or l 0 no_net)) (sym c.as_slice.ensures) (first_there c.args.control.now.hold can.some);
      flown = c.drive_flights.new.out;
      flights = c.in_ok-comings.ensures;
      fetched = c.fetch.new.out;
      fetching = refl;
      fetches = c.in_ok-fetch.ensures;
      shows = c.in_ok-show_control.ensures;
    }
