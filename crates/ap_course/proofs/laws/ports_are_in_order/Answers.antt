use Rattle.ap_course.proofs.InOrder.{use_stands}
use Rattle.ap_course.proofs.laws.ports_are_in_order.Goals as goal

pub returns : goal.returns
returns c = λ design cards stage k instr course order fits at of is_order j u there. use_stands design cards stage k instr course order fits at of is_order j u there
