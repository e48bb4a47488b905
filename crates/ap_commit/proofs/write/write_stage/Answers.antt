use Rattle.std.proofs.Common.{◌≡◌, ◌∷◌, take, Some, refl, arith}
use Rattle.std.specs.Prelude.{slice_get}
use Rattle.ap_net.proofs.Laws.{Makes-trans}
use Rattle.ap_ctl.proofs.Beside.{EachPair-push, each_get, item_at, take_item}
use Rattle.ap_ctl.proofs.Bits.{IsBit-Makes}
use Rattle.ap_stage.specs.Courses.{courses_numbers}
use Rattle.ap_stage.proofs.Lined.{ground_on}
use Rattle.ap_stage.proofs.Users.{courses_on}
use Rattle.ap_commit.specs.Written.{CanWritePort, IsWritten}
use Rattle.ap_commit.proofs.Made.{port_from, ports_on}
use Rattle.ap_commit.proofs.write.write_stage.Goals as goal

pub write_port-requires-clause-ground : goal.write_port-requires-clause-ground
write_port-requires-clause-ground c = ground_on _ _ c.args.ground.now c.loop-used.invariant.makes c.requires.ground

pub write_port-requires-clause-courses : goal.write_port-requires-clause-courses
write_port-requires-clause-courses c = courses_on _ _ c.args.ground.now c.args.courses.now c.loop-used.invariant.makes.adds c.requires.courses

pub write_port-requires-clause-fires : goal.write_port-requires-clause-fires
write_port-requires-clause-fires c = IsBit-Makes _ _ c.args.fires c.loop-used.invariant.makes c.requires.fires

pub write_port-requires-clause-port : goal.write_port-requires-clause-port
write_port-requires-clause-port c =
    let ports = c.args.ports.now in
    let n = c.loop-used.used-index in
    let used = c.used-item.result in
    let at : slice_get ports n ≡ Some used = item_at ports ports n used refl (omega arith) c.used-item.is in
    each_get (CanWritePort c.args.design.now c.args.stage c.args.ground.now c.args.courses.now) ports n used c.requires.ports at

pub loop-used-preserved : goal.loop-used-preserved
loop-used-preserved c =
    let h = c.loop-used.invariant in
    let y = c.in_ok-nets.ensures in
    let design = c.args.design.now in
    let courses = c.args.courses.now in
    let ground = c.args.ground.now in
    let ports = c.args.ports.now in
    let n = c.loop-used.used-index in
    let used = c.used-item.result in
    let at : slice_get ports n ≡ Some used = item_at ports ports n used refl (omega arith) c.used-item.is in
    let more = take_item ports n used at in
    let mid = c.loop-used.out in
    let new = c.write_port.new.out in
    rw (c.in_ok-push.ensures.ok, more) (record {
      written = EachPair-push (IsWritten new design c.args.stage ground courses c.args.fires) (take n ports) c.loop-used.list used c.in_ok-nets.nets
          (ports_on mid new design c.args.stage ground courses c.args.fires (take n ports) c.loop-used.list y.makes.adds.extends h.written) y.written;
      from = port_from (c.args.fires.number ∷ courses_numbers ground courses) c.args.out.now mid new c.loop-used.list c.in_ok-nets.nets h.from y.from;
      makes = Makes-trans _ _ _ h.makes y.makes;
    })
