use Rattle.ap_course.proofs.Asking.{uses_can}
use Rattle.ap_course.proofs.FieldsIn.{fields_lie}
use Rattle.ap_course.proofs.Fits.{lines_can}
use Rattle.ap_course.proofs.laws.instructions_can_be_made.Goals as goal

pub returns-clause-fields : goal.returns-clause-fields
returns-clause-fields c = λ design cards k instr fits at. fields_lie design fits.clean instr

pub returns-clause-lines : goal.returns-clause-lines
returns-clause-lines c = λ design cards stage k instr ground fits at of. lines_can design instr ground of cards k fits at stage

pub returns-clause-uses : goal.returns-clause-uses
returns-clause-uses c = uses_can
