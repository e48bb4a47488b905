use Rattle.std.proofs.Common.{List, map, sym, ap, subst, ◌∙◌}
use Rattle.ap_slow.specs.declared.place.SlowPlaced.{SlowPlaced}
use Rattle.ap_slow.specs.Driven.{CanDrive, DrivesUnits}
use Rattle.ap_ctl.specs.Given.{slow_units}
use Rattle.ap_work.specs.Working.{busy_net}
use Rattle.ap_work.proofs.Standing.{can_drive, given_is, late_bit, nets_there, no_valid}
use Rattle.ap_work.proofs.work.make_control.Goals as goal

pub control-requires-clause-given : goal.control-requires-clause-given
control-requires-clause-given c =
    let placed = c.in_ok-units.ensures in
    let t = c.in_ok-taken.ensures in
    let late = late_bit c.place_slow_units.new.out c.late.new.self c.in_ok-taken.taken placed.adds.fresh t.ok t.wire t.late t.stay t.fresh t.names in
    let g = c.in_ok-given.ensures in
    let busy = g.busy ∙ c.as_slice-2.ensures ∙ c.in_ok-busy.ensures ∙ ap (map busy_net) c.as_slice.ensures in
    given_is c.args.design.now c.args.registers.now c.args.ports.now c.args.modules.now c.args.places.now c.in_ok-given.given c.in_ok-units.units c.in_ok-taken.taken c.args.out.now c.place_slow_units.new.out c.late.new.self c.requires.clean c.rules.ensures
    c.requires.front placed late g.words g.wait g.taken busy

pub control-requires-clause-names : goal.control-requires-clause-names
control-requires-clause-names c =
    let placed = c.in_ok-units.ensures in
    let t = c.in_ok-taken.ensures in
    let late = late_bit c.place_slow_units.new.out c.late.new.self c.in_ok-taken.taken placed.adds.fresh t.ok t.wire t.late t.stay t.fresh t.names in
    no_valid c.args.design.now c.args.modules.now c.args.places.now c.in_ok-units.units c.in_ok-taken.taken c.args.out.now c.place_slow_units.new.out c.late.new.self placed late c.requires.valid

pub drive_slow_units-requires-clause-there : goal.drive_slow_units-requires-clause-there
drive_slow_units-requires-clause-there c =
    let placed = c.in_ok-units.ensures in
    let t = c.in_ok-taken.ensures in
    let late = late_bit c.place_slow_units.new.out c.late.new.self c.in_ok-taken.taken placed.adds.fresh t.ok t.wire t.late t.stay t.fresh t.names in
    let g = c.in_ok-given.ensures in
    let busy = g.busy ∙ c.as_slice-2.ensures ∙ c.in_ok-busy.ensures ∙ ap (map busy_net) c.as_slice.ensures in
    let there = given_is c.args.design.now c.args.registers.now c.args.ports.now c.args.modules.now c.args.places.now c.in_ok-given.given c.in_ok-units.units c.in_ok-taken.taken c.args.out.now c.place_slow_units.new.out c.late.new.self c.requires.clean
    c.rules.ensures c.requires.front placed late g.words g.wait g.taken busy in
    let n = c.in_ok-nets.ensures in
    nets_there c.args.design.now c.in_ok-given.given c.late.new.self c.control.new.out c.in_ok-nets.nets c.requires.clean there n.control n.adds

pub drive_slow_units-requires-clause-can : goal.drive_slow_units-requires-clause-can
drive_slow_units-requires-clause-can c =
    let placed = c.in_ok-units.ensures in
    subst (CanDrive c.control.new.out) (sym c.as_slice-3.ensures)
    (can_drive c.args.design.now c.args.modules.now c.args.places.now (slow_units c.args.design.now) c.in_ok-units.units c.args.out.now c.place_slow_units.new.out c.control.new.out placed (λ x h. c.in_ok-nets.ensures.adds.late x (c.in_ok-taken.ensures.stay x h)))

pub returns : goal.returns
returns c =
    let placed = c.in_ok-units.ensures in
    let t = c.in_ok-taken.ensures in
    let late = late_bit c.place_slow_units.new.out c.late.new.self c.in_ok-taken.taken placed.adds.fresh t.ok t.wire t.late t.stay t.fresh t.names in
    let g = c.in_ok-given.ensures in
    let busy = g.busy ∙ c.as_slice-2.ensures ∙ c.in_ok-busy.ensures ∙ ap (map busy_net) c.as_slice.ensures in
    let n = c.in_ok-nets.ensures in
    record {
      united = c.place_slow_units.new.out;
      stood = c.late.new.self;
      controlled = c.control.new.out;
      placed = placed;
      declares = late;
      kept = c.rules.ensures;
      gives = record { words = g.words; wait = g.wait; taken = g.taken; busy = busy };
      there = given_is c.args.design.now c.args.registers.now c.args.ports.now c.args.modules.now c.args.places.now c.in_ok-given.given c.in_ok-units.units c.in_ok-taken.taken c.args.out.now c.place_slow_units.new.out c.late.new.self c.requires.clean
          c.rules.ensures c.requires.front placed late g.words g.wait g.taken busy;
      control = n.control;
      adds = n.adds;
      follows = n.follows;
      drives = subst (λ (l : List SlowPlaced). DrivesUnits c.args.design.now c.in_ok-nets.nets l c.control.new.out c.drive_slow_units.new.out) c.as_slice-3.ensures c.in_ok-drive_slow_units.ensures;
    }
