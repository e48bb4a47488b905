use Rattle.ap_course.proofs.Whole.{is_whole, line_operands}
use Rattle.ap_course.proofs.laws.instructions_are_whole.Goals as goal

pub returns-clause-whole : goal.returns-clause-whole
returns-clause-whole c = λ design cards stage k instr course fits at of live. is_whole design cards k instr fits at stage course of live

pub returns-clause-operands : goal.returns-clause-operands
returns-clause-operands c = λ design cards stage k instr course i m fits at of live has here. line_operands design cards k instr fits at stage course of live i m has here
