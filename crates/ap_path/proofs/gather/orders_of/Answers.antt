use Rattle.ap_path.proofs.Orders.{orders_step}
use Rattle.ap_path.proofs.gather.orders_of.Goals as goal

pub loop-stage-preserved : goal.loop-stage-preserved
loop-stage-preserved c = rw c.in_ok-push.ensures.ok (orders_step _ _ _ _ c.loop-stage.invariant c.in_ok-order_of.ensures)
