use Rattle.std.proofs.Common.{arith}
use Rattle.ap_vr.specs.Nets.{wire_form}
use Rattle.ap_vr.proofs.NetLists.{mapped_all, mapped_more}
use Rattle.ap_vr.proofs.nets.push_wires.Goals as goal

pub loop-wire-preserved : goal.loop-wire-preserved
loop-wire-preserved c =
    mapped_more wire_form c.args.wires.now c.args.forms.now c.loop-wire.forms _ c.loop-wire.wire-index c.wire-item.result c.loop-wire.invariant (omega arith) c.wire-item.is c.in_ok-push.ensures.ok

pub returns : goal.returns
returns c = mapped_all wire_form c.args.wires.now c.args.forms.now c.loop-wire.forms c.loop-wire.wire-index c.loop-wire.invariant (omega arith)
