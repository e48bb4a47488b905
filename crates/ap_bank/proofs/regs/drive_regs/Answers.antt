use Rattle.std.proofs.Common.{◌≡◌, ◌<◌, ◌+◌, ◌∷◌, [], ◌++◌, length, get_or, take, sym, subst, arith, List}
use Rattle.std.specs.Prelude.{Option, None}
use Rattle.std.proofs.lemmas.List.{take_all, take_more}
use Rattle.std.proofs.lemmas.Option.{slice_get-get_or}
use Rattle.ap_net.specs.declared.cell.Wire.{Wire}
use Rattle.ap_net.specs.Draft.{Draft}
use Rattle.ap_flight.specs.Stages.{IsOpen}
use Rattle.ap_flight.proofs.Clocking.{apart_before, pairs_long, taken_long}
use Rattle.ap_flight.proofs.SlotNets.{no_wire, wire_at}
use Rattle.ap_bank.specs.declared.regs.RegWrite.{RegWrite}
use Rattle.ap_bank.specs.Regs.{DrivesRegs, IsRegWrite}
use Rattle.ap_bank.proofs.Driven.{drives_more, drives_none, still_opened, write_at, write_later}
use Rattle.ap_bank.proofs.regs.drive_regs.Goals as goal

pub loop-place-init : goal.loop-place-init
loop-place-init c = drives_none c.args.out.now c.requires.fresh

pub bounds-registers-place : goal.bounds-registers-place
bounds-registers-place c =
    let long = pairs_long (IsRegWrite c.args.out.now.nets) c.args.registers.now c.args.writes.now c.requires.writes in
    omega arith

pub drive_reg-requires : goal.drive_reg-requires
drive_reg-requires c =
    let place = c.loop-place.place in
    let registers : List Wire = c.args.registers.now in
    let writes : List (Option RegWrite) = c.args.writes.now in
    let long : length registers ≡ length writes = pairs_long (IsRegWrite c.args.out.now.nets) registers writes c.requires.writes in
    let inside : place < length registers = omega arith in
    let also : place < length writes = omega arith in
    let h = c.loop-place.invariant in
    let r : Wire = get_or registers place no_wire in
    record {
      fresh = h.fresh;
      register = still_opened (take place registers) (take place writes) c.args.out.now c.loop-place.out r h (wire_at (IsOpen c.args.out.now) registers place c.requires.registers inside)
          (apart_before registers place r c.requires.apart (slice_get-get_or registers place no_wire inside));
      write = write_later c.args.out.now c.loop-place.out h.extends r (get_or writes place None) (write_at c.args.out.now.nets registers writes place c.requires.writes inside);
    }

pub loop-place-preserved : goal.loop-place-preserved
loop-place-preserved c =
    let place = c.loop-place.place in
    let registers : List Wire = c.args.registers.now in
    let writes : List (Option RegWrite) = c.args.writes.now in
    let long : length registers ≡ length writes = pairs_long (IsRegWrite c.args.out.now.nets) registers writes c.requires.writes in
    let inside : place < length registers = omega arith in
    let also : place < length writes = omega arith in
    let r : Wire = get_or registers place no_wire in
    let w : Option RegWrite = get_or writes place None in
    let d : Draft = c.drive_reg.new.out in
    let more : take (place + 1) writes ≡ take place writes ++ w ∷ [] = take_more writes place None also in
    subst (λ ws. DrivesRegs (take (place + 1) registers) ws c.args.out.now d) (sym more) (subst (λ rs. DrivesRegs rs (take place writes ++ w ∷ []) c.args.out.now d) (sym (take_more registers place no_wire inside))
    (drives_more (take place registers) (take place writes) r w c.args.out.now c.loop-place.out d (taken_long place registers writes long) c.loop-place.invariant c.in_ok-drive_reg.ensures))

pub returns : goal.returns
returns c =
    let long = pairs_long (IsRegWrite c.args.out.now.nets) c.args.registers.now c.args.writes.now c.requires.writes in
    subst (λ ws. DrivesRegs c.args.registers.now ws c.args.out.now c.loop-place.out) (take_all c.loop-place.place c.args.writes.now (omega arith)) (subst (λ rs. DrivesRegs rs (take c.loop-place.place c.args.writes.now) c.args.out.now c.loop-place.out) (take_all c.loop-place.place c.args.registers.now (omega arith)) c.loop-place.invariant)
