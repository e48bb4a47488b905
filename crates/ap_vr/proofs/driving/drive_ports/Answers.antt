use Rattle.std.proofs.Common.{arith, refl}
use Rattle.ap_vr.specs.Nets.{number_of}
use Rattle.ap_vr.proofs.Marks.{numbered_still, ports_all, ports_begin, ports_more, ports_right}
use Rattle.ap_vr.proofs.driving.drive_ports.Goals as goal

pub loop-place-init : goal.loop-place-init
loop-place-init c = ports_begin (number_of c.args.nets.now.names) c.args.nets.now.forms c.args.ports.now c.args.connections.now c.args.marked.now.items

pub drive_joined-here-requires : goal.drive_joined-here-requires
drive_joined-here-requires c = numbered_still c.args.nets.now c.args.marked.now.items c.loop-place.marked.items c.requires c.loop-place.invariant.long

pub loop-place-preserved : goal.loop-place-preserved
loop-place-preserved c =
    ports_more (number_of c.args.nets.now.names) c.args.nets.now.forms c.args.ports.now c.args.connections.now c.args.marked.now.items c.loop-place.marked.items _ c.loop-place.right _ c.drive_joined-here.result c.loop-place.place c.index-ports-place.result _
    c.loop-place.invariant c.loop-place-test.true c.index-ports-place.is refl c.drive_joined-here.ensures.right c.drive_joined-here.ensures.driven c.drive_joined-here.ensures.length c.both-right.ensures

pub returns-clause-right : goal.returns-clause-right
returns-clause-right c = ports_right (number_of c.args.nets.now.names) c.args.nets.now.forms c.args.ports.now c.args.connections.now c.args.marked.now.items c.loop-place.marked.items c.loop-place.right c.loop-place.place c.loop-place.invariant (omega (arith, c.loop-place-test.false))

pub returns-clause-driven : goal.returns-clause-driven
returns-clause-driven c = ports_all (number_of c.args.nets.now.names) c.args.nets.now.forms c.args.ports.now c.args.connections.now c.args.marked.now.items c.loop-place.marked.items c.loop-place.right c.loop-place.place c.loop-place.invariant (omega (arith, c.loop-place-test.false))

pub returns-clause-length : goal.returns-clause-length
returns-clause-length c = c.loop-place.invariant.long
