use Rattle.std.proofs.Common.{arith}
use Rattle.ap_vr.specs.Nets.{port_form}
use Rattle.ap_vr.proofs.NetLists.{mapped_all, mapped_more}
use Rattle.ap_vr.proofs.nets.push_ports.Goals as goal

pub loop-port-preserved : goal.loop-port-preserved
loop-port-preserved c =
    mapped_more port_form c.args.ports.now c.args.forms.now c.loop-port.forms _ c.loop-port.port-index c.port-item.result c.loop-port.invariant (omega arith) c.port-item.is (rw c.port_form.ensures at c.in_ok-push.ensures.ok)

pub returns : goal.returns
returns c = mapped_all port_form c.args.ports.now c.args.forms.now c.loop-port.forms c.loop-port.port-index c.loop-port.invariant (omega arith)
