use Rattle.ap_ports.proofs.FirstLines.{NoneBefore}
use Rattle.ap_ports.proofs.first.first_in_instrs.Given as goal

abbrev pub invariant-loop-instr : goal.invariant-loop-instr
invariant-loop-instr l = NoneBefore l.design l.kind l.instr-index
