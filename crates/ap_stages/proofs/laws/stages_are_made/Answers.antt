use Rattle.ap_stages.proofs.Around.{nodes_are_driven, placed_are_joined, stages_are_ready, stages_leave_names, stages_leave_nodes, stages_leave_wires}
use Rattle.ap_stages.proofs.laws.stages_are_made.Goals as goal

pub returns-clause-ready : goal.returns-clause-ready
returns-clause-ready c = λ design slots choices supplies orders modules shared owns old new stages staged by base nets given. stages_are_ready design slots choices supplies orders modules shared owns old new stages staged by base nets given

pub returns-clause-wires : goal.returns-clause-wires
returns-clause-wires c = λ design slots choices supplies orders modules shared owns old new stages staged w each late. stages_leave_wires design slots choices supplies orders modules shared owns old new stages staged w each late

pub returns-clause-names : goal.returns-clause-names
returns-clause-names c = λ design slots choices supplies orders modules shared owns old new stages staged name other each free. stages_leave_names design slots choices supplies orders modules shared owns old new stages staged name other each free

pub returns-clause-nodes : goal.returns-clause-nodes
returns-clause-nodes c = λ design slots choices supplies orders modules shared owns old new stages staged clean apart cards x s found nowhere h. stages_leave_nodes design slots choices supplies orders modules shared owns old new stages staged clean apart cards x s found nowhere h

pub returns-clause-driven : goal.returns-clause-driven
returns-clause-driven c = λ design slots choices supplies orders modules shared owns old new stages staged long k order j x s at there found. nodes_are_driven design slots choices supplies orders modules shared owns old new stages staged long k order j x s at there found

pub returns-clause-joined : goal.returns-clause-joined
returns-clause-joined c = λ design slots choices supplies orders modules shared owns old new later stages staged onward kept. placed_are_joined design slots choices supplies orders modules shared owns old new later stages staged onward kept
