use Rattle.std.proofs.Common.{◌<◌, length, arith}
use Rattle.std.proofs.lemmas.Option.{slice_get-get_or}
use Rattle.ap_desc.specs.declared.design.Node.TheVariants as design_node
use Rattle.ap_ports.proofs.Members.{each_get}
use Rattle.ap_stages.specs.Supplies.{CanMake}
use Rattle.ap_stages.proofs.Gathering.{more_made}
use Rattle.ap_stages.proofs.nodes.stage_nodes.Goals as goal

pub node_for-requires : goal.node_for-requires
node_for-requires c =
    let order = c.args.order.now in
    let i = c.loop-node.node-index in
    let inside : i < length order = omega arith in
    each_get (CanMake c.args.design.now c.args.choices.now c.args.supplies.now) order i _ c.requires (slice_get-get_or order i (design_node.Unit 0) inside)

pub loop-node-preserved : goal.loop-node-preserved
loop-node-preserved c =
    let order = c.args.order.now in
    let i = c.loop-node.node-index in
    let inside : i < length order = omega arith in
    let h = more_made c.args.design.now c.args.choices.now c.args.supplies.now order i c.loop-node.nodes.items c.push.new.self.items _ c.in_ok-made.made c.loop-node.invariant.long c.loop-node.invariant.each
    (slice_get-get_or order i (design_node.Unit 0) inside) c.in_ok-made.ensures c.in_ok-push.ensures.items in
    record { long = h.long; each = h.each }
