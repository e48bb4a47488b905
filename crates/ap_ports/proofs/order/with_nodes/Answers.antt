use Rattle.std.proofs.Common.{◌≡◌, ◌∙◌, None, Some, arith, sym}
use Rattle.ap_ports.proofs.Chain.{uses_more, uses_skip}
use Rattle.ap_ports.proofs.order.with_nodes.Goals as goal
use Rattle.ap_ports.proofs.order.with_nodes.Goals.{then-micro-stage+in-Some, then-micro-stage+in_default, else-micro-stage}

pub loop-micro-preserved : goal.loop-micro-preserved
loop-micro-preserved c = elim c.if-micro-stage.branch [
  | then-micro-stage+in-Some w ↦
      rw w.nodes-is (uses_more c.loop-micro.nodes c.args.before c.args.stage c.args.micros.now c.loop-micro.micro-index _ (omega arith) c.loop-micro.invariant w.single-nodes.result w.in-Some.node
      (w.if-micro-stage.true, sym w.node_number.ensures.number ∙ w.in-Some.is) w.single-nodes.ensures)
  | then-micro-stage+in_default w ↦
      rw w.nodes-is (uses_skip c.loop-micro.nodes c.args.before c.args.stage c.args.micros.now c.loop-micro.micro-index _ (omega arith) c.loop-micro.invariant
      (λ n is_use. (let wrong : None ≡ Some n = sym (sym w.node_number.ensures.number ∙ w.in_default.is) ∙ is_use.1 in absurd cc)))
  | else-micro-stage w ↦
      rw w.nodes-is (uses_skip c.loop-micro.nodes c.args.before c.args.stage c.args.micros.now c.loop-micro.micro-index _ (omega arith) c.loop-micro.invariant (λ n is_use. w.if-micro-stage.false is_use.0))
]
