use Rattle.std.proofs.Common.{ap, arith, length, subst, sym}
use Rattle.ap_ports.specs.Numbered.{AreNumbered}
use Rattle.ap_ports.proofs.Chain.{uses_all, uses_instr}
use Rattle.ap_ports.proofs.Members.{item_at}
use Rattle.ap_ports.proofs.Numbered.{sound_numbered}
use Rattle.ap_ports.proofs.order.nodes_of.Goals as goal

pub with_nodes-nodes-requires : goal.with_nodes-nodes-requires
with_nodes-nodes-requires c =
    let at = item_at c.as_slice-instr-items.result.now c.args.design.now.instrs c.loop-instr.instr-index c.instr-item.result c.as_slice-instr-items.ensures (omega arith) c.instr-item.is in
    subst AreNumbered (sym c.as_slice.ensures) (sound_numbered c.args.design.now c.requires c.loop-instr.instr-index c.instr-item.result at)

pub loop-instr-preserved : goal.loop-instr-preserved
loop-instr-preserved c =
    let at = item_at c.as_slice-instr-items.result.now c.args.design.now.instrs c.loop-instr.instr-index c.instr-item.result c.as_slice-instr-items.ensures (omega arith) c.instr-item.is in
    uses_instr c.loop-instr.nodes c.with_nodes-nodes.result c.args.stage c.args.design.now.instrs c.loop-instr.instr-index c.instr-item.result c.as_slice.result.now at c.as_slice.ensures c.loop-instr.invariant c.with_nodes-nodes.ensures

pub returns : goal.returns
returns c = uses_all c.args.design.now c.loop-instr.nodes c.args.stage c.loop-instr.instr-index (omega (arith, ap length c.as_slice-instr-items.ensures)) c.loop-instr.invariant
