use Rattle.ap_desc.proofs.LineOrder.{micros_in_order, instrs_in_order, own_in_order}
use Rattle.ap_desc.proofs.laws.lines_stand_in_order.Goals as goal

pub returns-clause-micros : goal.returns-clause-micros
returns-clause-micros c = micros_in_order

pub returns-clause-instrs : goal.returns-clause-instrs
returns-clause-instrs c = instrs_in_order

pub returns-clause-own : goal.returns-clause-own
returns-clause-own c = own_in_order
