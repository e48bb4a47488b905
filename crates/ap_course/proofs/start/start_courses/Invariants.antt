use Rattle.ap_course.proofs.Gathering.{AreUnderWay}
use Rattle.ap_course.proofs.start.start_courses.Given as goal

abbrev pub invariant-loop-number : goal.invariant-loop-number
invariant-loop-number l = AreUnderWay l.design l.stage l.ground l.table.homes l.slots l.conds l.number l.fn.out l.out l.courses.items
