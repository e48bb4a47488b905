use Rattle.std.proofs.Common.{false, arith, refl}
use Rattle.ap_vr.specs.Driving.{instance_drives}
use Rattle.ap_vr.specs.Nets.{number_of}
use Rattle.ap_vr.specs.Scope.{module_named}
use Rattle.ap_vr.specs.Tables.{listed}
use Rattle.ap_vr.proofs.Marks.{driven_all, driven_begins, driven_first, driven_more, numbered_still}
use Rattle.ap_vr.proofs.driving.drive_instances.Goals as goal

pub loop-place-init : goal.loop-place-init
loop-place-init c = driven_begins (instance_drives (module_named (listed c.args.modules.now)) (number_of c.args.nets.now.names)) c.args.nets.now.forms false c.args.from c.args.instances.now c.args.marked.now.items

pub drive_instance-right-requires-clause-numbered : goal.drive_instance-right-requires-clause-numbered
drive_instance-right-requires-clause-numbered c = numbered_still c.args.nets.now c.args.marked.now.items c.loop-place.marked.items c.requires.numbered c.loop-place.invariant.long

pub loop-place-preserved : goal.loop-place-preserved
loop-place-preserved c =
    driven_more (instance_drives (module_named (listed c.args.modules.now)) (number_of c.args.nets.now.names)) c.args.nets.now.forms false c.args.from c.args.instances.now c.args.marked.now.items c.loop-place.marked.items _ c.loop-place.first _ c.loop-place.place c.index-instances-place.result _ c.drive_instance-right.result _
    c.loop-place.invariant c.loop-place-test.true c.index-instances-place.is refl c.drive_instance-right.ensures.right c.drive_instance-right.ensures.driven c.drive_instance-right.ensures.length refl c.noted-first.ensures

pub returns-clause-first : goal.returns-clause-first
returns-clause-first c = driven_first (instance_drives (module_named (listed c.args.modules.now)) (number_of c.args.nets.now.names)) c.args.nets.now.forms false c.args.from c.args.instances.now c.args.marked.now.items c.loop-place.marked.items c.loop-place.first c.loop-place.place c.loop-place.invariant (omega (arith, c.loop-place-test.false))

pub returns-clause-driven : goal.returns-clause-driven
returns-clause-driven c = driven_all (instance_drives (module_named (listed c.args.modules.now)) (number_of c.args.nets.now.names)) c.args.nets.now.forms false c.args.from c.args.instances.now c.args.marked.now.items c.loop-place.marked.items c.loop-place.first c.loop-place.place c.loop-place.invariant (omega (arith, c.loop-place-test.false))

pub returns-clause-length : goal.returns-clause-length
returns-clause-length c = c.loop-place.invariant.long
