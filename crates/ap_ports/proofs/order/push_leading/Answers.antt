use Rattle.std.proofs.Common.{arith}
use Rattle.std.proofs.lemmas.Bool.{both_ways}
use Rattle.ap_ports.proofs.Picked.{picked_push, picked_skip}
use Rattle.ap_ports.proofs.order.push_leading.Goals as goal
use Rattle.ap_ports.proofs.order.push_leading.Goals.{then-has+then-ahead-number+in_ok-push, then-has+else-ahead-number, else-has}

pub loop-number-preserved : goal.loop-number-preserved
loop-number-preserved c = elim c.if-has.branch [
  | then-has+then-ahead-number+in_ok-push w ↦
      rw (w.order-is, w.in_ok-push.ensures.ok)
      (picked_push c.args.nodes c.args.ahead.now c.args.behind c.loop-number.number c.loop-number.order c.loop-number.invariant w.node_at.result w.node_at.ensures.number w.node_at.ensures.low
      (c.has.ensures.0 w.if-has.true) (omega (arith, w.if-ahead-number.true)))
  | then-has+else-ahead-number w ↦
      rw w.order-is (picked_skip c.args.nodes c.args.ahead.now c.args.behind c.loop-number.number c.loop-number.order (λ has turn. w.if-ahead-number.false (omega arith)) c.loop-number.invariant)
  | else-has w ↦
      rw w.order-is (picked_skip c.args.nodes c.args.ahead.now c.args.behind c.loop-number.number c.loop-number.order (λ has turn. both_ways c.has.result w.if-has.false (c.has.ensures.1 has)) c.loop-number.invariant)
]
