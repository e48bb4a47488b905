use Rattle.std.proofs.Common.{◌-◌, List, ◌∷◌, sym, subst}
use Rattle.std.specs.List.{AllByRecursion as Each}
use Rattle.ap_net.specs.Late.{IsLate}
use Rattle.ap_net.specs.Ready.{numbers}
use Rattle.ap_net.proofs.Lists.{All-at, All-from}
use Rattle.ap_ctl.specs.Building.{IsBit}
use Rattle.ap_stage.specs.declared.node.Course.{Course}
use Rattle.ap_stage.specs.Courses.{IsCourse, courses_numbers}
use Rattle.ap_stage.specs.Reads.{AreFrom}
use Rattle.ap_effect.specs.Writers.{write_wires}
use Rattle.ap_commit.specs.Written.{CanWritePort, IsWritten}
use Rattle.ap_act.proofs.Lines.{stage_of_used}
use Rattle.ap_act.proofs.Written.{can_join, can_write, port_drives, port_written, stage_can}
use Rattle.ap_act.proofs.write.write_one.Goals as goal

pub used_port-requires-clause-used : goal.used_port-requires-clause-used
used_port-requires-clause-used c = (stage_of_used c.args.design.now c.args.outputs.port c.in_ok-stage.stage c.in_ok-stage.ensures c.requires.used).used

pub write_port-requires-clause-ground : goal.write_port-requires-clause-ground
write_port-requires-clause-ground c = (c.requires.can.each (c.in_ok-stage.stage - 1) c.stage_at-served.result.now c.stage_at-served.ensures).ground

pub write_port-requires-clause-courses : goal.write_port-requires-clause-courses
write_port-requires-clause-courses c =
    let s = c.stage_at-served.result.now in
    subst (Each (IsCourse c.args.out.now s.ground)) (sym c.deref.ensures.value) (c.requires.can.each (c.in_ok-stage.stage - 1) s c.stage_at-served.ensures).courses

pub write_port-requires-clause-fires : goal.write_port-requires-clause-fires
write_port-requires-clause-fires c = All-at (IsBit c.args.out.now.nets) c.args.fires.now (c.in_ok-stage.stage - 1) c.net_at-fire.result c.requires.can.are_bits c.net_at-fire.ensures

pub write_port-requires-clause-port : goal.write_port-requires-clause-port
write_port-requires-clause-port c =
    let design = c.args.design.now in
    let stage = c.in_ok-stage.stage in
    let s = c.stage_at-served.result.now in
    let low = (stage_of_used design c.args.outputs.port stage c.in_ok-stage.ensures c.requires.used).low in
    let can = stage_can design c.args.out.now c.args.fires.now c.args.stages.now stage s c.requires.can low c.stage_at-served.ensures in
    let fit = c.lines_fit_ports.ensures.writes design s.ground s.courses.items stage c.args.outputs.port c.requires.clean.sound can.of in
    subst (λ (l : List Course). CanWritePort design stage s.ground l c.in_ok-used.used) (sym c.deref.ensures.value) (can_write design c.args.out.now stage s c.args.outputs c.in_ok-used.used can c.requires.sized c.in_ok-used.ensures fit)

pub join_port-requires : goal.join_port-requires
join_port-requires c =
    let design = c.args.design.now in
    let s = c.stage_at-served.result.now in
    let late = All-from (IsLate c.args.out.now) (IsLate c.write_port.new.out) (λ w l. c.in_ok-made.ensures.from.reads.late w l) (write_wires c.args.outputs.to) c.requires.late in
    can_join design c.write_port.new.out c.in_ok-stage.stage s.ground c.deref.result.now c.net_at-fire.result c.args.outputs c.in_ok-used.used c.in_ok-made.made c.requires.sized c.in_ok-used.ensures late c.requires.apart c.in_ok-made.ensures.written

pub returns-clause-written : goal.returns-clause-written
returns-clause-written c =
    let design = c.args.design.now in
    let stage = c.in_ok-stage.stage in
    let s = c.stage_at-served.result.now in
    let made = c.in_ok-made.made in
    let fire = c.net_at-fire.result in
    let used = c.in_ok-used.used in
    let written = subst (λ (l : List Course). IsWritten c.write_port.new.out design stage s.ground l fire used made) c.deref.ensures.value c.in_ok-made.ensures.written in
    let from = subst (λ (l : List Course). AreFrom (fire.number ∷ courses_numbers s.ground l) c.args.out.now c.write_port.new.out (numbers (write_wires made))) c.deref.ensures.value c.in_ok-made.ensures.from in
    port_written design c.args.fires.now c.args.stages.now c.args.out.now c.write_port.new.out c.join_port.new.out c.args.outputs stage s fire used made (stage_of_used design c.args.outputs.port stage c.in_ok-stage.ensures c.requires.used)
    c.stage_at-served.ensures c.net_at-fire.ensures c.in_ok-used.ensures.of written from c.in_ok-join_port.ensures

pub returns-clause-drives : goal.returns-clause-drives
returns-clause-drives c =
    let s = c.stage_at-served.result.now in
    let made = c.in_ok-made.made in
    let fire = c.net_at-fire.result in
    let from = subst (λ (l : List Course). AreFrom (fire.number ∷ courses_numbers s.ground l) c.args.out.now c.write_port.new.out (numbers (write_wires made))) c.deref.ensures.value c.in_ok-made.ensures.from in
    port_drives c.args.fires.now c.args.stages.now c.args.out.now c.write_port.new.out c.join_port.new.out c.args.outputs.to made (c.in_ok-stage.stage - 1) s fire c.requires.fresh c.stage_at-served.ensures c.net_at-fire.ensures
    from c.in_ok-made.ensures.makes c.in_ok-join_port.ensures
