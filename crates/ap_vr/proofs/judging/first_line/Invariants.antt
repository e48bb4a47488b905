use Rattle.ap_vr.specs.Judged.{line_by}
use Rattle.ap_vr.proofs.Scoping.{FoundSoFar}
use Rattle.ap_vr.proofs.judging.first_line.Given as goal

abbrev pub invariant-loop-module : goal.invariant-loop-module
invariant-loop-module l = FoundSoFar (line_by l.rule) l.modules l.known l.earlier.items l.module-index
