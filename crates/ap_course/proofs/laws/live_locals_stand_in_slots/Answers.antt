use Rattle.ap_course.proofs.Standing.{are_stored}
use Rattle.ap_course.proofs.laws.live_locals_stand_in_slots.Goals as goal

pub returns : goal.returns
returns c = λ design cards nets stage k instr widths homes slots fits at are registers. are_stored design cards nets stage k instr widths homes slots fits at are registers
