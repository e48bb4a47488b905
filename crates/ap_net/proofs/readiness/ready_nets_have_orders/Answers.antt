use Rattle.ap_net.proofs.Orders.{ready_have_orders}
use Rattle.ap_net.proofs.Responses.{ready_are_ordered}
use Rattle.ap_net.proofs.readiness.ready_nets_have_orders.Goals as goal

pub returns-clause-whole : goal.returns-clause-whole
returns-clause-whole c = ready_have_orders

pub returns-clause-alone : goal.returns-clause-alone
returns-clause-alone c = ready_are_ordered
