use Rattle.std.proofs.Common.{arith}
use Rattle.std.proofs.lemmas.Bool.{both_ways}
use Rattle.ap_ports.proofs.Picked.{bits_le, bits_none, bits_with, bits_without}
use Rattle.ap_ports.proofs.ways.count_of.Goals as goal
use Rattle.ap_ports.proofs.ways.count_of.Goals.{then-has, else-has}

pub loop-node-init : goal.loop-node-init
loop-node-init c = bits_none c.args.set

pub overflow_add-count : goal.overflow_add-count
overflow_add-count c = let few = bits_le c.args.set c.loop-node.node in omega arith

pub loop-node-preserved : goal.loop-node-preserved
loop-node-preserved c = elim c.if-has.branch [
  | then-has w ↦ rw w.count-is (bits_with c.args.set c.loop-node.node c.loop-node.count c.loop-node.invariant (c.has.ensures.0 w.if-has.true))
  | else-has w ↦ rw w.count-is (bits_without c.args.set c.loop-node.node c.loop-node.count c.loop-node.invariant (λ h. both_ways c.has.result w.if-has.false (c.has.ensures.1 h)))
]
