use Rattle.std.proofs.Common.{◌<◌, List, get_or, length, subst, arith}
use Rattle.std.proofs.lemmas.List.{take_all}
use Rattle.ap_slow.specs.declared.place.SlowPlaced.{SlowPlaced}
use Rattle.ap_slow.specs.Driven.{DrivesUnits}
use Rattle.std.proofs.lemmas.Option.{slice_get-get_or}
use Rattle.ap_slow.proofs.DrivenAll.{next_apart, next_late, no_placed, there_later, units_more, units_none}
use Rattle.ap_slow.proofs.drive.drive_slow_units.Goals as goal

pub drive_unit-requires-clause-there : goal.drive_unit-requires-clause-there
drive_unit-requires-clause-there c = there_later c.args.design.now c.args.out.now c.loop-unit.out c.args.nets.now c.loop-unit.invariant.drives.extends c.requires.there

pub drive_unit-requires-clause-late : goal.drive_unit-requires-clause-late
drive_unit-requires-clause-late c =
    let i = c.loop-unit.unit-index in
    let placed : List SlowPlaced = c.args.placed.now in
    let inside : i < length placed = omega arith in
    let x : SlowPlaced = get_or placed i no_placed in
    let at = slice_get-get_or placed i no_placed inside in
    next_late c.args.design.now c.args.nets.now placed i x c.args.out.now c.loop-unit.out at c.requires.can.late c.requires.can.apart c.loop-unit.invariant

pub drive_unit-requires-clause-apart : goal.drive_unit-requires-clause-apart
drive_unit-requires-clause-apart c =
    let i = c.loop-unit.unit-index in
    let placed : List SlowPlaced = c.args.placed.now in
    let inside : i < length placed = omega arith in
    let x : SlowPlaced = get_or placed i no_placed in
    let at = slice_get-get_or placed i no_placed inside in
    next_apart placed i x at c.requires.can.apart

pub loop-unit-init : goal.loop-unit-init
loop-unit-init c = units_none c.args.design.now c.args.nets.now c.args.out.now c.requires.fresh

pub loop-unit-preserved : goal.loop-unit-preserved
loop-unit-preserved c =
    let i = c.loop-unit.unit-index in
    let placed : List SlowPlaced = c.args.placed.now in
    let inside : i < length placed = omega arith in
    let x : SlowPlaced = get_or placed i no_placed in
    let at = slice_get-get_or placed i no_placed inside in
    units_more c.args.design.now c.args.nets.now placed i x c.args.out.now c.loop-unit.out c.drive_unit.new.out at c.loop-unit.invariant c.in_ok-drive_unit.ensures.served c.in_ok-drive_unit.ensures.drives

pub returns : goal.returns
returns c = subst (λ l. DrivesUnits c.args.design.now c.args.nets.now l c.args.out.now c.loop-unit.out) (take_all c.loop-unit.unit-index c.args.placed.now (omega arith)) c.loop-unit.invariant
