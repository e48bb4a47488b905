use Rattle.ap_path.proofs.Orders.{AreOrdersTo}
use Rattle.ap_path.proofs.gather.orders_of.Given as goal

abbrev pub invariant-loop-stage : goal.invariant-loop-stage
invariant-loop-stage l = AreOrdersTo l.design l.stage l.orders
