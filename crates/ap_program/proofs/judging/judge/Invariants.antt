use Rattle.std.proofs.Common.{take}
use Rattle.ap_program.specs.SoFar.{IsSoFar}
use Rattle.ap_program.proofs.FaultyLines.{AreFineBefore}
use Rattle.ap_program.proofs.judging.judge.Given as goal

-- the lines so far have no fault, and this is what is kept of them
abbrev pub invariant-loop-i : goal.invariant-loop-i
invariant-loop-i l = record { fine : AreFineBefore l.design l.lines l.i; kept : IsSoFar l.design (take l.i l.lines) l.so_far }
