use Rattle.std.proofs.Common.{take}
use Rattle.std.specs.List.{AllByRecursion as Each}
use Rattle.ap_ctl.specs.Lists.{EachPair}
use Rattle.ap_stage.specs.Courses.{courses_numbers}
use Rattle.ap_stage.specs.Wiring.{ReadsOnly}
use Rattle.ap_outcome.specs.Outcomes.{AreWritersFrom, IsLineWriter, IsLowWriter}
use Rattle.ap_outcome.proofs.list.writers.Given as goal

-- the writers of the lines so far
abbrev pub invariant-loop-line : goal.invariant-loop-line
invariant-loop-line l = record {
  each : EachPair (IsLineWriter l.out l.ground l.courses) (take l.line-index l.lines) l.list;
  low : Each (IsLowWriter l.out) l.list;
  from : AreWritersFrom (courses_numbers l.ground l.courses) l.fn.out l.out l.list;
  reads : ReadsOnly (courses_numbers l.ground l.courses) l.fn.out l.out;
}
