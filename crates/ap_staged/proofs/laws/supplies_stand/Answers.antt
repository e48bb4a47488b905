use Rattle.ap_staged.proofs.Orders.{orders_are_numbered}
use Rattle.ap_staged.proofs.Standing.{supplies_stand}
use Rattle.ap_staged.proofs.Stood.{declared_mems_stand, placed_units_stand}
use Rattle.ap_staged.proofs.laws.supplies_stand.Goals as goal

pub returns-clause-nodes : goal.returns-clause-nodes
returns-clause-nodes c = supplies_stand

pub returns-clause-orders : goal.returns-clause-orders
returns-clause-orders c = orders_are_numbered

pub returns-clause-units : goal.returns-clause-units
returns-clause-units c = placed_units_stand

pub returns-clause-mems : goal.returns-clause-mems
returns-clause-mems c = declared_mems_stand
